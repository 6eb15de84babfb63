-- `placing::blocks::is_spare` meets its contract.
-- Assumes nothing.
use mathlib.Core.Path.{refl, sym, ◌∙◌, ap}
use mathlib.Core.Bool.{true, false, not}
use Rattle.spec.specs.Basics.{is_in}
use Rattle.spec.specs.Contents.{pointers}
use Rattle.placing.proofs.Staged.{spare-by}
use Rattle.placing.proofs.blocks.is_spare.Goals as goal

pub returns-then-not-has_bit : goal.returns-then-not-has_bit
returns-then-not-has_bit c es items g =
    let u = c.args.unit.0 in
    sym (spare-by u es items false c.is_staged.result (sym c.if-not-has_bit.true ∙ c.has_bit.ensures ∙ g.blocks u) (c.is_staged.ensures items g.staged))

pub returns-else-not-has_bit : goal.returns-else-not-has_bit
returns-else-not-has_bit c es items g =
    let u = c.args.unit.0 in
    ap not c.if-not-has_bit.false ∙ sym (spare-by u es items true (is_in u (pointers items)) (sym c.if-not-has_bit.false ∙ c.has_bit.ensures ∙ g.blocks u) refl)
