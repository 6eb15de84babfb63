-- `consistency::block_fine` meets its contract, case by case.
-- Assumes nothing.
use Rattle.consistency.proofs.block_fine.Goals as goal

pub returns-then-not-points : goal.returns-then-not-points
returns-then-not-points c = rw (← c.points.ensures, c.if-not-points.true)

pub returns-else-not-points : goal.returns-else-not-points
returns-else-not-points c = rw (← c.points.ensures, c.if-not-points.false) c.block_right.ensures
