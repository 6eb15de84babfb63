-- `staging::put_short` meets its contract.
-- Assumes nothing.
use mathlib.Core.Path.{refl}
use native.Mathlib.Omega.{arith}
use Rattle.staging.proofs.put_short.Goals as goal

pub returns-then-value-le-MOST_IN_LOG : goal.returns-then-value-le-MOST_IN_LOG
returns-then-value-le-MOST_IN_LOG c = record { within = λ h. c.put_in_log.ensures; without = λ no. absurd (no (omega arith)) }

pub returns : goal.returns
returns c = record { within = λ h. absurd (omega arith); without = λ no. (refl, refl) }
