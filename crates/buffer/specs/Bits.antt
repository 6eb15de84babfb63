-- The set of units that start a block in use, as bits of the station record's buffer, and what it is to change it.
-- `Areas` says where they stand.
-- Assumes nothing.
use Rattle.std.specs.Prelude.{◌≡◌, Bool, false, List, ℕ, ◌+◌, ◌/◌, ◌%◌, ◌^◌, ◌≤◌, ◌<◌, eqb, ltb, length, get_or}
use Rattle.spec.specs.Basics.{both}
use Rattle.spec.specs.declared.Size.{Size}
use Rattle.buffer.specs.Areas.{bits_start, bits_end, sums_start, buffer_words}
use Rattle.places.specs.Sizes.{unit_count}

-- the word of unit u
abbrev pub word_of : ℕ → ℕ
word_of u = bits_start + u / 64

-- a unit of chunks of a size
unfoldable pub has_bit : Size → List ℕ → ℕ → Bool
has_bit size buffer u = both (ltb u (unit_count size)) (eqb (get_or buffer (word_of u) 0 / 2 ^ (u % 64) % 2) 1)

-- both are buffers of the record, and agree at every word that holds no bits
pub record WordsKept (before after : List ℕ) : Type 0 where
  pub size : length before ≡ buffer_words
  pub long : length after ≡ length before
  pub below : (i : ℕ) → i < bits_start → get_or after i 0 ≡ get_or before i 0
  pub above : (i : ℕ) → bits_end ≤ i → get_or after i 0 ≡ get_or before i 0

-- both are buffers of the record, and agree at every word before the bits, and at the two between these and the sums
pub record FrontKept (before after : List ℕ) : Type 0 where
  pub size : length before ≡ buffer_words
  pub long : length after ≡ length before
  pub below : (i : ℕ) → i < bits_start → get_or after i 0 ≡ get_or before i 0
  pub between : (i : ℕ) → bits_end ≤ i → i < sums_start → get_or after i 0 ≡ get_or before i 0

-- unit u is in the set if so told, and out of it otherwise; every other unit is as it was
pub record BitWritten (size : Size) (before after : List ℕ) (u : ℕ) (value : Bool) : Type 0 where
  pub at : u < unit_count size → has_bit size after u ≡ value
  pub other : (v : ℕ) → (v ≡ u → ⊥) → has_bit size after v ≡ has_bit size before v
  pub beyond : unit_count size ≤ u → after ≡ before
  pub kept : WordsKept before after

-- no unit is in the set
pub record BitsCleared (size : Size) (before after : List ℕ) : Type 0 where
  pub none : (v : ℕ) → has_bit size after v ≡ false
  pub kept : WordsKept before after
