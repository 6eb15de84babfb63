-- The filter of the staged keys: one word of the record's buffer, where `buffer.Areas` says, has a bit for each of
-- them, so that a key whose bit is 0 is not looked for among the staged items. Its bits are not those by which the key
-- table is probed.
-- Assumes nothing.
use Rattle.std.specs.Prelude.{◌≡◌, Bool, true, List, [], ◌∷◌, ℕ, ◌+◌, ◌*◌, ◌/◌, ◌%◌, ◌^◌, eqb}
use Rattle.spec.specs.Log.{Entry}

-- the number of a key's bit, 0 to 63: the upper bits of a product of its two halves' sum
unfoldable pub filter_bit : ℕ → ℕ
filter_bit key = (key % 2 ^ 32 + key / 2 ^ 32) % 2 ^ 32 * 2654435761 % 2 ^ 32 / 2 ^ 26

-- whether the word w has the bit of a key
unfoldable pub is_marked : (w key : ℕ) → Bool
is_marked w key = eqb (w / 2 ^ filter_bit key % 2) 1

-- the word w has the bit of every item's key
abbrev pub AllMarked : ℕ → List Entry → Type 0
AllMarked w [] = Unit {0}
AllMarked w (e ∷ items) = (is_marked w e.key ≡ true) × AllMarked w items
