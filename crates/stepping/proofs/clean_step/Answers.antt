-- `stepping::clean_step` meets its contract.
-- Assumes nothing.
use native.Mathlib.Omega.{arith}
use Rattle.stepping.proofs.Cleaning.{cleans}
use Rattle.stepping.proofs.clean_step.Goals as goal

pub returns : goal.returns
returns c = cleans _ _ _ _ _ (omega arith) (omega arith) (omega arith) _ _ _ _ _ c.clean_next.ensures
