-- How code tells the size of a chunk: one of two, each with its power of two. A record keeps the power as a number, of
-- which any but the large one is read as the small one.
-- Assumes nothing.
use Rattle.std.specs.Prelude.{◌≡◌, ℕ, ◌*◌, ◌≤◌, eqb}
use Rattle.std.proofs.Common.{arith}
use Rattle.spec.specs.Basics.{pick}
use Rattle.spec.specs.Places.{base_power, large_power, max_chunks, chunk_units}
use Rattle.spec.specs.declared.Size.{Size}
use Rattle.spec.specs.declared.Size.TheVariants as S

abbrev pub power_of : Size → ℕ
power_of S.Small = base_power
power_of S.Large = large_power

abbrev pub size_by : ℕ → Size
size_by x = pick (eqb x large_power) S.Large S.Small

-- both are powers that every law on blocks and cuts is for
pub power-low : (size : Size) → 12 ≤ power_of size
power-low S.Small = omega arith
power-low S.Large = omega arith

pub power-high : (size : Size) → power_of size ≤ 16
power-high S.Small = omega arith
power-high S.Large = omega arith

-- the units of the most chunks
abbrev pub unit_count : Size → ℕ
unit_count S.Small = 8064
unit_count S.Large = 129024

pub unit-count : (size : Size) → unit_count size ≡ max_chunks * chunk_units (power_of size)
unfolding chunk_units
unit-count S.Small = omega arith
unit-count S.Large = omega arith

pub unit-most : (size : Size) → unit_count size ≤ unit_count S.Large
unit-most S.Small = omega arith
unit-most S.Large = omega arith
