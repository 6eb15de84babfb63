-- What a cleaning gathers at its begin: the words of the entries that it keeps, in the second area of the record's
-- buffer, one behind the other, as a commit writes them.
-- Assumes nothing.
use Rattle.std.specs.Prelude.{◌≡◌, ℕ, ◌+◌, ◌<◌, ◌≤◌, ◌⊎◌, List, length, slice_index}
use Rattle.spec.specs.declared.Size.{Size}
use Rattle.places.specs.Sizes.{power_of}
use Rattle.spec.specs.Places.{chunk_words}
use Rattle.spec.specs.Log.{Entry, encode_all}
use Rattle.buffer.specs.Areas.{second_start, bits_start, buffer_words}
use Rattle.session.specs.State.{buffer_part}
use Rattle.session.specs.Cleaned.{kept_of}
use Rattle.gathering.specs.declared.measure.Tally.{Tally}
use Rattle.gathering.specs.Measuring.{Gatherable}

-- n words are copied from one list of words into another
pub record Copied (ws buffer buffer' : List ℕ) (from to n : ℕ) : Type 0 where
  pub long : length buffer' ≡ length buffer
  pub words : (i : ℕ) → i < n → slice_index buffer' (to + i) ≡ slice_index ws (from + i)
  pub others : (j : ℕ) → (j < to) ⊎ (to + n ≤ j) → slice_index buffer' j ≡ slice_index buffer j

-- the buffer's words outside the second area stay
pub record AreaWritten (buffer buffer' : List ℕ) : Type 0 where
  pub size : length buffer ≡ buffer_words
  pub long : length buffer' ≡ length buffer
  pub below : (j : ℕ) → j < second_start → slice_index buffer' j ≡ slice_index buffer j
  pub above : (j : ℕ) → bits_start ≤ j → slice_index buffer' j ≡ slice_index buffer j

-- THE GATHERING, with the words in the record's buffer: of any memory, and where the table is that of the image's
-- entries
pub record Gathered (size : Size) (ws table buffer buffer' : List ℕ) (at end : ℕ) (t : Tally) : Type 0 where
  pub area : AreaWritten buffer buffer'
  pub bound : t.words ≤ chunk_words (power_of size)
  pub gathers : (keys : ℕ) (xs mid ys : List Entry) → Gatherable size ws table keys at end xs mid ys
      → (buffer_part buffer' second_start t.words ≡ encode_all (kept_of xs mid ys)) × (t.entries ≡ length (kept_of xs mid ys))
