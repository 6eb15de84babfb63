-- `apply::join::release` meets its contract.
-- Assumes nothing.
use Rattle.std.proofs.Common.{eqb}
use Rattle.apply.proofs.Freeing.{freed-one, freed-both, unlike-first, unlike-second}
use Rattle.apply.proofs.join.release.Goals as goal
use Rattle.apply.proofs.join.release.Goals.{else-op-eq1-via-else-op-eq1, else-op-eq1-via-then-op-eq1+else-placement-eq1}

pub returns-then-placement-eq1 : goal.returns-then-placement-eq1
returns-then-placement-eq1 c =
    let a = c.args in
    freed-both a.size a.op 1 a.placement 1 (eqb a.field) _ _ c.if-op-eq1.true
    c.if-placement-eq1.true (freed-one a.size _ _ _ c.unset_bit.ensures)

pub returns-else-op-eq1 : goal.returns-else-op-eq1
returns-else-op-eq1 c =
    let a = c.args in
    elim c.else-op-eq1.branch [
      | else-op-eq1-via-else-op-eq1 w ↦ unlike-first a.size a.op 1 a.placement 1 (eqb a.field) _ c.told-buffer w.if-op-eq1.false
      | else-op-eq1-via-then-op-eq1+else-placement-eq1 w ↦ unlike-second a.size a.op 1 a.placement 1 (eqb a.field) _ c.told-buffer w.if-placement-eq1.false
    ]
