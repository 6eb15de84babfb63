-- `consistency::examine` meets its contract.
-- Assumes nothing.
use Rattle.consistency.proofs.Tests.{examined-plain, examined-table, examined-classes}
use Rattle.consistency.proofs.examine.Goals as goal

pub returns-then-single : goal.returns-then-single
returns-then-single c = examined-plain _ _ _ _ _ _ _ _ _ c.clear_bits.ensures c.if-single.true c.if-direct.true

pub returns-then-is_none : goal.returns-then-is_none
returns-then-is_none c = examined-classes _ _ _ _ _ _ _ _ _ c.clear_bits.ensures _ _ c.check_classes.ensures

pub returns : goal.returns
returns c = examined-table _ _ _ _ _ _ _ _ _ c.clear_bits.ensures _ _ c.check_class.ensures
