-- `gathering::measure::is_kept` meets its contract.
-- Assumes nothing.
use Rattle.std.proofs.Common.{refl, eq-eqb, ne_eqb}
use Rattle.gathering.proofs.Kept.{test-put, test-sole, test-delete, test-other}
use Rattle.gathering.proofs.measure.is_kept.Goals as goal

pub returns-then-op-eq1 : goal.returns-then-op-eq1
returns-then-op-eq1 c = rw (eq-eqb c.args.op 1 c.if-op-eq1.true) (test-put _ _ _ _ _ _ _ _ c.get.ensures c.unpack-info.ensures c.if-info-place.true c.if-op-eq1.true)

pub returns-then-info-ne1 : goal.returns-then-info-ne1
returns-then-info-ne1 c =
    test-delete _ _ _ _ _ _ _ _ c.get.ensures c.unpack-info.ensures c.if-info-place.true c.if-op-eq1.false c.if-info-ne1.true _ c.get-then-info-ne1.ensures _ refl

pub returns-else-info-ne1 : goal.returns-else-info-ne1
returns-else-info-ne1 c =
    rw (eq-eqb c.unpack-info.result.entries 1 c.if-info-ne1.false)
    (test-sole _ _ _ _ _ _ _ _ c.get.ensures c.unpack-info.ensures c.if-info-place.true c.if-op-eq1.false c.if-info-ne1.false)

pub returns-else-info-place : goal.returns-else-info-place
returns-else-info-place c =
    rw (ne_eqb c.unpack-info.result.place c.args.place c.if-info-place.false)
    (test-other _ _ _ _ _ _ _ _ c.get.ensures c.unpack-info.ensures c.if-info-place.false)
