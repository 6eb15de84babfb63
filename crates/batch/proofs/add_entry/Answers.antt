-- `batch::add_entry` meets its contract: without room nothing changes, else the item's words stand behind the others.
-- Assumes nothing.
use mathlib.Core.Path.{subst}
use Prim.Native.Nat.{ℕ}
use native.Mathlib.Omega.{arith}
use Rattle.spec.specs.Words.{packed}
use Rattle.words.proofs.Values.{length-packed}
use Rattle.batch.proofs.Add as Add
use Rattle.batch.specs.Marks.{MarkedWith}
use Rattle.batch.proofs.add_entry.Goals as goal
use Rattle.batch.proofs.add_entry.Goals.{then-words-gt-BATCH_WORDS-via-then-words-gt-BATCH_WORDS, then-words-gt-BATCH_WORDS-via-else-words-gt-BATCH_WORDS+then-words-more}

pub returns-then-words-gt-BATCH_WORDS : goal.returns-then-words-gt-BATCH_WORDS
returns-then-words-gt-BATCH_WORDS c =
    let a = c.args in
    elim c.then-words-gt-BATCH_WORDS.branch [
      | then-words-gt-BATCH_WORDS-via-then-words-gt-BATCH_WORDS w ↦ Add.add_none a.buffer.now a.words _ (omega arith) (omega arith)
      | then-words-gt-BATCH_WORDS-via-else-words-gt-BATCH_WORDS+then-words-more w ↦ Add.add_none a.buffer.now a.words _ (omega arith) (omega (arith, length-packed a.value.now))
    ]

pub returns : goal.returns
returns c =
    let first = c.first_word in
    let a = c.args in
    let n = length-packed a.value.now in
    Add.add-more a.buffer.now _ a.words _ _ _ _ _ _ first.result c.marked_with.result
    (packed a.value.now) (omega arith) (omega arith) (omega arith)
    first.ensures
    (subst (λ (w : ℕ). MarkedWith w c.marked_with.result a.key) c.marks_of-marks.ensures
    c.marked_with.ensures)
    c.pack_into.ensures
