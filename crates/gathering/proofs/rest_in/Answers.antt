-- `gathering::rest_in` meets its contract.
-- Assumes nothing.
use Rattle.std.proofs.Common.{arith}
use Rattle.places.specs.Sizes.{power_of, power-low, power-high}
use Rattle.theory_base.proofs.Places.{words-most}
use Rattle.gathering.proofs.rest_in.Goals as goal

pub whole_as_slice-take_counted : goal.whole_as_slice-take_counted
whole_as_slice-take_counted g c = let w = words-most (power_of c.args.size) (power-low c.args.size) (power-high c.args.size) in let n = c.requires.2 in omega arith
