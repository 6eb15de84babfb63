-- `apply::join::claim` meets its contract.
-- Assumes nothing.
use Rattle.apply.proofs.Claiming.{claimed-one, no-put, no_block}
use Rattle.apply.proofs.join.claim.Goals as goal
use Rattle.apply.proofs.join.claim.Goals.{else-placement-eq1-via-else-placement-eq1, else-placement-eq1-via-then-placement-eq1+else-op-eq1}

pub returns-then-op-eq1 : goal.returns-then-op-eq1
returns-then-op-eq1 c =
    let a = c.args in
    claimed-one a.size a.op a.placement a.field _ _ c.if-op-eq1.true
    c.if-placement-eq1.true c.set_bit.ensures

pub returns-else-placement-eq1 : goal.returns-else-placement-eq1
returns-else-placement-eq1 c =
    let a = c.args in
    elim c.else-placement-eq1.branch [
      | else-placement-eq1-via-else-placement-eq1 w ↦ no_block a.size a.op a.placement a.field _ c.told-buffer w.if-placement-eq1.false
      | else-placement-eq1-via-then-placement-eq1+else-op-eq1 w ↦ no-put a.size a.op a.placement a.field _ c.told-buffer w.if-op-eq1.false
    ]
