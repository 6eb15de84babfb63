-- The numbers that go by the size of a chunk are small, whatever the record holds.
-- Assumes nothing.
use Prim.Native.Nat.{ℕ, ◌+◌, ◌/◌, ◌≤◌, ◌<◌, min}
use native.Mathlib.Omega.{arith}
use Rattle.spec.specs.Places.{chunk_words, chunk_units, base, first_unit, unit_in}
use Rattle.spec.specs.Blocks.{block_limit}
use Rattle.spec.specs.declared.Size.{Size}
use Rattle.spec.specs.declared.Size.TheVariants as S
use Rattle.places.specs.Sizes.{power_of}
use Rattle.buffer.specs.Areas.{second_room}

-- the first word of a chunk, and a unit of one
pub base-few : (size : Size) (c : ℕ) → c < 512 → base (power_of size) c < 4194304
unfolding base chunk_words
base-few S.Small c h = omega arith
base-few S.Large c h = omega arith

pub unit-few : (size : Size) (c i : ℕ) → c < 512 → first_unit (power_of size) c + unit_in (power_of size) i < 131072
unfolding first_unit unit_in chunk_units
unit-few S.Small c i h = omega arith
unit-few S.Large c i h = omega arith

-- a value in a block, and its length word, have room in the second area
pub value-few : (size : Size) → block_limit (power_of size) ≤ 65528
unfolding block_limit chunk_units
value-few S.Small = omega arith
value-few S.Large = omega arith

pub held-few : (size : Size) (n : ℕ) → 1 + (min n (block_limit (power_of size)) + 7) / 8 ≤ second_room
held-few size n = let v = value-few size in omega arith
