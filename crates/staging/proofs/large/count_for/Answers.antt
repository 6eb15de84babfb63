-- `staging::large::count_for` meets its contract.
-- Assumes nothing.
use borrow.Author.Tests.{eq-eqb, ne_eqb}
use Prim.Native.Nat.{min}
use mathlib.Core.Path.{◌≡◌, ◌∙◌, ap}
use Rattle.spec.specs.Blocks.{block_limit}
use Rattle.places.specs.Sizes.{power_of}
use Rattle.staging.proofs.large.count_for.Goals as goal

pub returns-then-units-eq0 : goal.returns-then-units-eq0
returns-then-units-eq0 c =
    let a = c.args in
    let most : c.min-most.result ≡ min a.bytes (block_limit (power_of a.size)) = c.min-most.ensures ∙ ap (min a.bytes) c.largest_value.ensures.0 in
    rw (eq-eqb _ 0 c.if-units-eq0.true, ← most)

pub returns : goal.returns
returns c =
    let a = c.args in
    let most : c.min-most.result ≡ min a.bytes (block_limit (power_of a.size)) = c.min-most.ensures ∙ ap (min a.bytes) c.largest_value.ensures.0 in
    rw (ne_eqb _ 0 c.if-units-eq0.false, ← most)
