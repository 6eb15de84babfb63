-- `staging::delete_core` meets its contract.
-- Assumes nothing.
use Rattle.staging.proofs.Staging.{delete-left, delete-done}
use Rattle.staging.proofs.delete_core.Goals as goal

pub one_more-requires : goal.one_more-requires
one_more-requires c = c.in-Ok.ensures.0.few

pub returns-in-Err : goal.returns-in-Err
returns-in-Err c =
    let a = c.args in
    delete-left a.control a.setup a.buffer.now a.image.now a.table.now a.named a.key _ c.in-Err.ensures _ c.refused.ensures

pub returns-in-Ok : goal.returns-in-Ok
returns-in-Ok c =
    let a = c.args in
    delete-done a.control a.setup a.buffer.now a.image.now a.table.now a.named a.key _ c.in-Ok.ensures _ _ c.add_entry-end.ensures _ c.one_more.ensures
