-- Each action that puts words behind the committed lines is the definitions'.
-- Assumes nothing.
use mathlib.Core.Path.{refl}
use Prim.Native.Nat.{◌%◌}
use native.Mathlib.Omega.{arith}
use Rattle.session.specs.State.{buffer_part}
use Rattle.actions.proofs.Bounds.{base-few}
use Rattle.actions.proofs.Appending.{lines-of, shows-store, shows-flush, shows-fence, shows-seal}
use borrow.Author.Rules.{rules}
use Rattle.actions.proofs.append.append_action.Goals as goal

pub first_word-requires : goal.first_word-requires
first_word-requires c =
    let f = base-few c.size_by-size.result (c.args.setup.chunk % 512) (omega arith) in
    omega arith

pub overflow_add-result : goal.overflow_add-result
overflow_add-result c =
    let f = base-few c.size_by-size.result (c.args.setup.chunk % 512) (omega arith) in
    search rules

pub overflow_add-result-then-at-stores : goal.overflow_add-result-then-at-stores
overflow_add-result-then-at-stores c =
    let f = base-few c.size_by-size.result (c.args.setup.chunk % 512) (omega arith) in
    search rules

pub returns-then-at-stores : goal.returns-then-at-stores
returns-then-at-stores c =
    let a = c.args in
    let b = a.buffer.now in
    shows-store a.setup (buffer_part b a.from a.words) a.at _ (lines-of b a.from a.words _ refl) c.size_by-size.result c.size_by-size.ensures _ _
    (omega arith) (omega arith) c.append_word.ensures

pub returns-then-at-fence : goal.returns-then-at-fence
returns-then-at-fence c =
    let a = c.args in
    let b = a.buffer.now in
    shows-flush a.setup (buffer_part b a.from a.words) a.at _ (lines-of b a.from a.words _ refl) c.size_by-size.result c.size_by-size.ensures _
    (omega arith) (omega arith) (omega arith)

pub returns-then-at-seal : goal.returns-then-at-seal
returns-then-at-seal c =
    let a = c.args in
    let b = a.buffer.now in
    shows-fence a.setup (buffer_part b a.from a.words) a.at _ (lines-of b a.from a.words _ refl)
    (omega arith)

pub returns-else-at-seal : goal.returns-else-at-seal
returns-else-at-seal c =
    let a = c.args in
    let b = a.buffer.now in
    shows-seal a.setup (buffer_part b a.from a.words) a.at _ (lines-of b a.from a.words _ refl) _ _ _
    (omega arith) (omega arith) c.log_word-value.ensures c.word_action.ensures
