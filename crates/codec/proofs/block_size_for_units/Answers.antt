-- `codec::block_size_for_units` meets its contract: the table that stands for the size, read at any number.
-- Assumes nothing.
use Rattle.std.proofs.Common.{◌≡◌, ap, ◌∙◌, get_or, arith}
use Rattle.std.proofs.lemmas.Grind.{common_steps}
use Rattle.spec.specs.Places.{chunk_units}
use Rattle.codec.proofs.Sizes.{small-inside, large-inside}
use Rattle.codec.proofs.block_size_for_units.Goals as goal
use Rattle.codec.proofs.block_size_for_units.Goals.{in-Small, in-Large}

pub returns : goal.returns
unfolding chunk_units
returns c =
    let u = c.args.units in
    let e : c.unwrap_or.result ≡ get_or c.match-size.sizes.now u 0 = grind (arith, common_steps) in
    elim c.match-size.branch [
      | in-Small w ↦ e ∙ ap (λ sizes. get_or sizes.now u 0) w.sizes-is ∙ rw w.in-Small.is (small-inside u)
      | in-Large w ↦ e ∙ ap (λ sizes. get_or sizes.now u 0) w.sizes-is ∙ rw w.in-Large.is (large-inside u)
    ]
