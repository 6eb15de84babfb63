-- A large value held in the station record while it is staged.
-- Assumes nothing.
use Rattle.std.specs.Prelude.{◌≡◌, List, ◌∷◌, ℕ, ◌+◌, ◌/◌, ◌≤◌, ◌<◌, length, get_or}
use Rattle.spec.specs.Words.{packed}
use Rattle.spec.specs.Blocks.{block_limit}
use Rattle.spec.specs.declared.Size.{Size}
use Rattle.places.specs.Sizes.{power_of}
use Rattle.buffer.specs.Areas.{second_start, bits_start, buffer_words}
use Rattle.buffer.specs.Bits.{has_bit}
use Rattle.session.specs.declared.Setup.{Setup}
use Rattle.session.specs.State.{size_in, buffer_part, held_words}

-- a value put into the second area, if it fits into a block
pub record Kept (size : Size) (before after bytes : List ℕ) : Type 0 where
  pub whole : length before ≡ buffer_words
  pub long : length after ≡ length before
  pub below : (i : ℕ) → i < second_start → get_or after i 0 ≡ get_or before i 0
  pub above : (i : ℕ) → bits_start ≤ i → get_or after i 0 ≡ get_or before i 0
  pub bits : (u : ℕ) → has_bit size after u ≡ has_bit size before u
  pub large : block_limit (power_of size) < length bytes → after ≡ before
  pub written : length bytes ≤ block_limit (power_of size) → buffer_part after second_start (1 + (length bytes + 7) / 8) ≡ length bytes ∷ packed bytes
  pub held : (k : Setup) → size_in k ≡ size → length bytes ≤ block_limit (power_of size) → held_words k after ≡ length bytes ∷ packed bytes
