-- The unit at a place of a chunk, as the code makes it of any two numbers.
-- Assumes nothing.
use Rattle.std.specs.Prelude.{ℕ, ◌+◌, ◌%◌, ◌^◌}
use Rattle.spec.specs.Places.{first_unit, unit_in}

-- chunk and place, each modulo the numbers that there is room for
unfoldable pub unit_at : (p c i : ℕ) → ℕ
unit_at p c i = first_unit p (c % 2 ^ 48) + unit_in p i
