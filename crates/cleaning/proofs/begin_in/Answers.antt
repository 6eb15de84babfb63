-- `cleaning::begin_in` meets its contract.
-- Assumes nothing.
use native.Mathlib.Omega.{arith}
use Rattle.session.specs.State.{size_in}
use Rattle.theory_base.proofs.Places.{words-most}
use Rattle.places.specs.Sizes.{power_of, power-low, power-high}
use Rattle.cleaning.proofs.begin_in.Goals as goal

pub whole_as_slice-begin_with : goal.whole_as_slice-begin_with
whole_as_slice-begin_with g c =
    let w = words-most (power_of (size_in c.args.setup)) (power-low (size_in c.args.setup)) (power-high (size_in c.args.setup)) in
    let n = c.requires in
    omega arith
