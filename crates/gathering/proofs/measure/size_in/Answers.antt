-- `gathering::measure::size_in` meets its contract.
-- Assumes nothing.
use Rattle.std.proofs.Common.{arith}
use Rattle.places.specs.Sizes.{power_of, power-low, power-high}
use Rattle.theory_base.proofs.Places.{words-most}
use Rattle.gathering.proofs.measure.size_in.Goals as goal

pub whole_as_slice-size_counted : goal.whole_as_slice-size_counted
whole_as_slice-size_counted g c = let w = words-most (power_of c.args.size) (power-low c.args.size) (power-high c.args.size) in let n = c.requires in omega arith
