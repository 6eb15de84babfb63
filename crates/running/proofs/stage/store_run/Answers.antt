-- `running::stage::store_run` meets its contract.
-- Assumes nothing.
use mathlib.Core.Path.{sym, ◌∙◌}
use native.Mathlib.Omega.{arith}
use borrow.Author.Tests.{leb-true, leb-false}
use lib.ListN.{length}
use Rattle.session.specs.State.{block_actions, behind_all}
use Rattle.actions.proofs.Filling.{none_left}
use Rattle.running.proofs.Staging.{store-acts, store-ends}
use Rattle.running.proofs.stage.store_run.Goals as goal

pub returns-then-is_stored : goal.returns-then-is_stored
returns-then-is_stored c =
    store-ends _ _ _ _ _ _ c.store_block-at.ensures _ _ c.staged.ensures.0 c.staged.ensures.1
    (leb-true _ _ (sym c.is_stored.ensures ∙ c.if-is_stored.true))

pub overflow_add-next : goal.overflow_add-next
overflow_add-next c =
    let a = c.args in
    let l = leb-false (length (block_actions a.setup a.buffer.now)) c.store_block-at.result
    (sym c.is_stored.ensures ∙ c.if-is_stored.false) in
    let m = none_left a.setup a.buffer.now behind_all (omega arith) in
    omega arith

pub returns : goal.returns
returns c =
    rw c.at_action-moved.ensures
    (store-acts _ _ _ _ _ _ c.store_block-at.ensures _
    (leb-false _ _ (sym c.is_stored.ensures ∙ c.if-is_stored.false))
    c.block_action-action.ensures)
