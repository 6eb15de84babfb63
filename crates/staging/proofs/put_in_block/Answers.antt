-- `staging::put_in_block` meets its contract.
-- Assumes nothing.
use mathlib.Core.Path.{refl}
use native.Mathlib.Omega.{arith}
use Rattle.staging.proofs.put_in_block.Goals as goal

pub one_more-requires : goal.one_more-requires
one_more-requires c = (c.in-Ok.ensures c.args.value.now refl).0.few

pub returns-in-Err : goal.returns-in-Err
returns-in-Err c = c.in-Err.ensures c.args.value.now refl

pub returns-in-Ok : goal.returns-in-Ok
returns-in-Ok c =
    rw c.one_more.ensures
    ((c.in-Ok.ensures c.args.value.now refl).1 (λ i. omega (arith, c.type_inv.value i)) _ _ c.record_large-large.ensures)
