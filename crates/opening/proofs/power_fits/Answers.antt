-- `opening::power_fits` meets its contract: by the two powers that there are.
-- Assumes nothing.
use mathlib.Core.Path.{◌∙◌}
use Rattle.std.proofs.Common.{ne_eqb, arith}
use Rattle.spec.specs.Places.{size_allowed}
use Rattle.opening.proofs.power_fits.Goals as goal

pub returns-in-12 : goal.returns-in-12
unfolding size_allowed
returns-in-12 c = c.length_allowed.ensures ∙ rw c.in-12.is

pub returns-in-16 : goal.returns-in-16
unfolding size_allowed
returns-in-16 c = c.length_allowed-in-16.ensures ∙ rw c.in-16.is

pub returns-in_default : goal.returns-in_default
unfolding size_allowed
returns-in_default c = rw (ne_eqb c.args.power 12 (λ q. omega arith), ne_eqb c.args.power 16 (λ q. omega arith))
