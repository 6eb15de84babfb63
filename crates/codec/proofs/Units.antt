-- The unit at a place of a chunk, where there is room for both.
-- Assumes nothing.
use Rattle.std.proofs.Common.{◌≡◌, ℕ, ◌+◌, ◌^◌, ◌<◌, mod-eq_of_lt}
use Rattle.spec.specs.Places.{first_unit, unit_in, chunk_units}
use Rattle.codec.specs.Units.{unit_at}

pub unit-of : (p c i : ℕ) → c < 2 ^ 48 → unit_at p c i ≡ first_unit p c + unit_in p i
unfolding unit_at
unit-of p c i h = rw (mod-eq_of_lt h)

pub unit-at : (p c i : ℕ) → c < 2 ^ 48 → i < chunk_units p → unit_at p c i ≡ first_unit p c + i
unfolding unit_at unit_in
unit-at p c i h l = rw (mod-eq_of_lt h, mod-eq_of_lt l)
