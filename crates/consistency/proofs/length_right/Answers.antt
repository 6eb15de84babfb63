-- `consistency::length_right` meets its contract where the last word is looked at.
-- Assumes nothing.
use native.Mathlib.Omega.{arith}
use Rattle.consistency.proofs.Blocks.{length-filled}
use Rattle.consistency.proofs.length_right.Goals as goal

pub returns-else-odd-eq0 : goal.returns-else-odd-eq0
returns-else-odd-eq0 c = let a = c.args in length-filled a.units a.length a.last (omega arith) (omega arith) (omega arith)
