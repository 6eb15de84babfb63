-- `stepping::stage_step` meets its contract.
-- Assumes nothing.
use mathlib.Core.Path.{sym, ◌∙◌}
use native.Mathlib.Omega.{arith}
use borrow.Author.Tests.{leb-true, leb-false}
use lib.ListN.{length}
use Rattle.session.specs.State.{block_actions, behind_all}
use Rattle.actions.proofs.Filling.{none_left}
use Rattle.stepping.proofs.Shows as S
use Rattle.stepping.proofs.stage_step.Goals as goal

pub returns-then-is_stored : goal.returns-then-is_stored
returns-then-is_stored c =
    rw c.ended-staged.ensures
    (S.staging-ends _ _ _ _ _ (omega arith) (omega arith) (omega arith) (leb-true _ _ (sym c.is_stored.ensures ∙ c.if-is_stored.true)))

pub overflow_add-next : goal.overflow_add-next
overflow_add-next c =
    let a = c.args in
    let l = leb-false (length (block_actions a.setup a.buffer.now)) a.control.next
    (sym c.is_stored.ensures ∙ c.if-is_stored.false) in
    let m = none_left a.setup a.buffer.now behind_all (omega arith) in
    omega arith

pub returns : goal.returns
returns c =
    rw c.in_phase-moved.ensures
    (S.staging-acts _ _ _ _ _ (omega arith) (omega arith) (omega arith) _ _
    (leb-false _ _ (sym c.is_stored.ensures ∙ c.if-is_stored.false))
    c.block_action-action.ensures c.perform.ensures)
