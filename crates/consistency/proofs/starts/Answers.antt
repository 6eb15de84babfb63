-- `consistency::starts` meets its contract.
-- Assumes nothing.
use native.Mathlib.Omega.{arith}
use Rattle.spec.specs.Places.{unit_in, chunk_units}
use Rattle.consistency.proofs.starts.Goals as goal

pub overflow_add-result : goal.overflow_add-result
unfolding unit_in chunk_units
overflow_add-result c = omega arith
