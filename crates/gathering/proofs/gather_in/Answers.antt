-- `gathering::gather_in` meets its contract.
-- Assumes nothing.
use Rattle.std.proofs.Common.{arith}
use Rattle.places.specs.Sizes.{power_of, power-low, power-high}
use Rattle.theory_base.proofs.Places.{words-most, bytes-words}
use Rattle.gathering.proofs.Passes.{collected}
use Rattle.gathering.proofs.gather_in.Goals as goal

pub whole_as_slice-read_chunk : goal.whole_as_slice-read_chunk
whole_as_slice-read_chunk g c =
    let w = words-most (power_of c.args.size) (power-low c.args.size) (power-high c.args.size) in
    let b = bytes-words (power_of c.args.size) (power-low c.args.size) (power-high c.args.size) in
    let n = c.requires.2 in
    omega arith

pub shared_whole_as_slice-take_all : goal.shared_whole_as_slice-take_all
shared_whole_as_slice-take_all g c =
    let w = words-most (power_of c.args.size) (power-low c.args.size) (power-high c.args.size) in
    let b = bytes-words (power_of c.args.size) (power-low c.args.size) (power-high c.args.size) in
    let n = c.requires.2 in
    omega arith

pub returns : goal.returns
returns g c = collected _ _ _ _ _ _ _ _ _ c.read_chunk-n.ensures c.take_all.ensures
