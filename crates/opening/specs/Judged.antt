-- What an opening finds of an image, and the key table, block bits and sums that it leaves where the image is accepted.
-- Assumes nothing.
use Rattle.std.specs.Prelude.{◌≡◌, List, ℕ, ◌≤◌, length, Result, Ok, Err}
use Rattle.spec.specs.declared.Size.{Size}
use Rattle.places.specs.Sizes.{power_of, size_by}
use Rattle.spec.specs.Basics.{is_in}
use Rattle.spec.specs.Words.{words_of}
use Rattle.spec.specs.Places.{max_chunks, base}
use Rattle.spec.specs.Header.{header_power}
use Rattle.spec.specs.Log.{Entry, image_entries}
use Rattle.spec.specs.Contents.{live_blocks}
use Rattle.spec.specs.Opening.{Opening, Refused, Accepted, open_log, opening}
use Rattle.spec.specs.Machine.{Open, refusals}
use Rattle.spec.specs.Contract.{MemRefusal}
use Rattle.spec.specs.declared.Refusal.{Refusal}
use Rattle.buffer.specs.Bits.{has_bit}
use Rattle.volatile.specs.Known.{Indexed}
use Rattle.volatile.specs.Sums.{Summed}

-- the verdict is the definition's; of an accepted image table, bits and sums are its entries'
abbrev pub Judged : (size : Size) → Opening → List ℕ → List ℕ → Result ℕ Refusal → Type 0
Judged size o table buffer (Err n) = (o ≡ Refused n) × MemRefusal n (refusals Open)
Judged size o table buffer (Ok keys) = (es : List Entry) × (o ≡ Accepted es) × Indexed size table keys es × ((u : ℕ) → has_bit size buffer u ≡ is_in u (live_blocks es)) × Summed size buffer es

-- of the log alone, in an image of n chunks
pub record JudgingLog (size : Size) (n : ℕ) (ws table table' buffer buffer' : List ℕ) (r : Result ℕ Refusal) : Type 0 where
  pub sized : length table' ≡ length table
  pub kept : length buffer' ≡ length buffer
  pub judged : n ≤ max_chunks → base (power_of size) n ≤ length ws → Judged size (open_log (power_of size) n ws (length table) (image_entries (power_of size) n ws)) table' buffer' r

-- of the whole image, by the chunk power that its header says
pub record Judging (bytes table table' buffer buffer' : List ℕ) (r : Result ℕ Refusal) : Type 0 where
  pub sized : length table' ≡ length table
  pub kept : length buffer' ≡ length buffer
  pub judged : Judged (size_by (header_power (words_of bytes))) (opening (length bytes) (words_of bytes) (length table)) table' buffer' r
