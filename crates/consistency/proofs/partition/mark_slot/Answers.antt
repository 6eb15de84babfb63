-- `consistency::partition::mark_slot` meets its contract. Assumes nothing.
use Prim.Native.Nat.{◌/◌}
use native.Mathlib.Omega.{arith}
use Rattle.consistency.proofs.Twins.{mark_set, mark-none, mark-low}
use Rattle.consistency.proofs.partition.mark_slot.Goals as goal

pub returns-then-at-marks : goal.returns-then-at-marks
returns-then-at-marks c = mark_set _ _ _ (c.class_of.result / 0x4_0000) (rw c.class_of.ensures) (omega arith)

pub returns-else-at-marks : goal.returns-else-at-marks
returns-else-at-marks c = mark-none _ _ _ (c.class_of.result / 0x4_0000) (rw c.class_of.ensures) (omega arith)

pub returns-else-info-ge9223372036854775808 : goal.returns-else-info-ge9223372036854775808
returns-else-info-ge9223372036854775808 c = mark-low _ _ _ (omega arith)
