-- `staging::put_in_log` meets its contract.
-- Assumes nothing.
use mathlib.Core.Path.{refl}
use native.Mathlib.Omega.{arith}
use Rattle.staging.proofs.Staging.{put-left, put-done}
use Rattle.staging.proofs.put_in_log.Goals as goal

pub one_more-requires : goal.one_more-requires
one_more-requires c = (c.in-Ok.ensures c.args.value.now refl).0.few

pub returns-in-Err : goal.returns-in-Err
returns-in-Err c =
    let a = c.args in
    put-left a.control a.setup a.buffer.now a.image.now a.table.now a.named a.key a.value.now _ c.in-Err.ensures _ c.refused.ensures

pub returns-in-Ok : goal.returns-in-Ok
returns-in-Ok c =
    let a = c.args in
    put-done a.control a.setup a.buffer.now a.image.now a.table.now a.named a.key a.value.now _ c.in-Ok.ensures (λ i. omega (arith, c.type_inv.value i)) _ _ c.add_entry-end.ensures _ c.one_more.ensures
