-- `logs::next_entry` meets its contract: each answer is what the definition says of the words from that place on.
-- Assumes nothing.
use mathlib.Core.Path.{sym, ◌∙◌, ap}
use native.Mathlib.Omega.{arith}
use Rattle.spec.specs.Log.{first_of_word}
use Rattle.spec.specs.declared.FirstWord.TheVariants as F
use Rattle.theory_log.proofs.Walk.{step_end, step-first, step-short, step-fill}
use Rattle.logs.proofs.next_entry.Goals as goal
use Rattle.logs.proofs.next_entry.Goals.{else-words-stop-via-then-words-stop+else-fill_right, else-words-stop-via-else-words-stop}

pub returns-then-stop-at : goal.returns-then-stop-at
returns-then-stop-at g c = sym (step_end c.args.at c.args.end (g.W.WordList.list c.args.list) (omega arith))

pub returns-in-Padding : goal.returns-in-Padding
returns-in-Padding g c =
    sym
    (step-first c.args.at c.args.end (g.W.WordList.list c.args.list) F.Padding (omega arith) (omega arith)
    (ap first_of_word (sym c.word.ensures) ∙ sym c.in-Padding.ensures))

pub returns-in-Wrong : goal.returns-in-Wrong
returns-in-Wrong g c =
    sym
    (step-first c.args.at c.args.end (g.W.WordList.list c.args.list) F.Wrong (omega arith) (omega arith)
    (ap first_of_word (sym c.word.ensures) ∙ sym c.in-Wrong.ensures))

pub returns-then-fill_right : goal.returns-then-fill_right
returns-then-fill_right g c =
    let x = c.in-Entry in
    let e = ap first_of_word (sym c.word.ensures) ∙ sym x.ensures in
    let w = c.words_for-words.ensures.0 in
    let s = step-fill x.op x.placement x.version x.field c.args.at c.args.end (g.W.WordList.list c.args.list) e (omega arith) (omega arith)
    c.fill_right.result c.fill_right.ensures in
    rw (s, c.if-fill_right.true, c.word-then-fill_right.ensures, w)

pub returns-else-words-stop : goal.returns-else-words-stop
returns-else-words-stop g c =
    let x = c.in-Entry in
    let ws = g.W.WordList.list c.args.list in
    let e = ap first_of_word (sym c.word.ensures) ∙ sym x.ensures in
    let w = c.words_for-words.ensures.0 in
    elim c.else-words-stop.branch [
      | else-words-stop-via-then-words-stop+else-fill_right b ↦ rw (step-fill x.op x.placement x.version x.field c.args.at c.args.end ws e (omega arith) (omega arith) b.fill_right.result b.fill_right.ensures, b.if-fill_right.false)
      | else-words-stop-via-else-words-stop b ↦ sym (step-short x.op x.placement x.version x.field c.args.at c.args.end ws (omega arith) (omega arith) e (omega arith))
    ]
