-- What the calls on chunks answer (`describe_chunk`, `empty_chunk`), for any memory and on memory as our calls left it.
-- Record, image and table stay.
-- Assumes nothing.
use Rattle.std.specs.Prelude.{◌≡◌, ℕ, ◌<◌, max, List, length, Option as Found, Some, unwrap_or}
use Rattle.std.proofs.Math.Option.{Option, none, some}
use Rattle.spec.specs.Words.{words_of}
use Rattle.spec.specs.Places.{chunks_in}
use Rattle.spec.specs.Reports.{number}
use Rattle.spec.specs.Machine.{state_power, gate}
use Rattle.spec.specs.declared.Size.{Size}
use Rattle.spec.specs.declared.Refusal.{Refusal}
use Rattle.spec.specs.declared.Refusal.TheVariants as N
use Rattle.spec.specs.declared.Report.{Report}
use Rattle.spec.specs.declared.Report.TheVariants as R
use Rattle.session.specs.declared.Control.{Control}
use Rattle.session.specs.declared.Setup.{Setup}
use Rattle.session.specs.declared.Session.{Session}
use Rattle.session.specs.State.{size_in, power_in, state_of}
use Rattle.session.specs.Fits.{Fits}
use Rattle.directory.specs.Found.{Stops}
use Rattle.lookup.specs.Look.{session_of}
use Rattle.lookup.specs.Contract.{entries_of}
use Rattle.inspect.specs.declared.ChunkRow.{ChunkRow}
use Rattle.inspect.specs.Rows.{plain_row, row_of, empty_chunk}
use Rattle.inspect.specs.ByTable.{row_at, empty_by, found_by}

-- the chunks of an image with this chunk power
abbrev pub count_in : (p : ℕ) → List ℕ → ℕ
count_in p bytes = chunks_in p (length bytes)

-- the row of a chunk by the image's entries, and the first data chunk with no live block
abbrev pub row_in : (p : ℕ) (bytes : List ℕ) (chunk : ℕ) → ChunkRow
row_in p bytes chunk = row_of p (words_of bytes) (entries_of p bytes) (count_in p bytes) chunk

abbrev pub report_of : Option ℕ → Report
report_of none = R.Refused N.NotCleanable
report_of (some c) = R.Chosen c

abbrev pub empty_in : (p : ℕ) (bytes : List ℕ) (from : ℕ) → Report
empty_in p bytes from = report_of (empty_chunk p (words_of bytes) (entries_of p bytes) (count_in p bytes) from)

-- 2, 1, 8 by the gate; behind it the row, of any memory by what the table holds, and on memory as our calls left it by
-- the image's entries
pub record Described (s : Session) (chunk : ℕ) (bytes table : List ℕ) (r : ChunkRow) : Type 0 where
  pub gated : (n : Refusal) → gate (state_of s) (length bytes) (length table) ≡ some n → r ≡ plain_row (number n) 0
  pub behind : gate (state_of s) (length bytes) (length table) ≡ none → r ≡ row_at (size_in s.setup) (words_of bytes) table (count_in (power_in s.setup) bytes) chunk
  pub exact : gate (state_of s) (length bytes) (length table) ≡ none → Fits s (words_of bytes) table → r ≡ row_in (state_power (state_of s)) bytes chunk

abbrev pub DescribedBy : Control → Setup → (chunk : ℕ) (bytes table : List ℕ) → ChunkRow → Type 0
DescribedBy c k chunk bytes table r = (b : List ℕ) → Described (session_of c k b) chunk bytes table r

-- the same of the first data chunk from chunk `from` on with no live block: 2, 1, 8, the chunk, or 16
pub record StoppedAt (size : Size) (ws table : List ℕ) (n from : ℕ) (r : Report) : Type 0 where
  pub chunk : ℕ
  pub stops : Stops (empty_by size ws table n from) 1 n chunk
  pub told : r ≡ found_by chunk n

-- what the search finds: the chunk at which it stops, which is past the last one where none is found
pub record EmptyFound (size : Size) (ws table : List ℕ) (n from : ℕ) (r : Found ℕ) : Type 0 where
  pub stops : Stops (empty_by size ws table n from) 1 n (unwrap_or r (max 1 n))
  pub inside : (c : ℕ) → r ≡ Some c → c < n

pub record Emptied (s : Session) (from : ℕ) (bytes table : List ℕ) (r : Report) : Type 0 where
  pub gated : (n : Refusal) → gate (state_of s) (length bytes) (length table) ≡ some n → r ≡ R.Refused n
  pub behind : gate (state_of s) (length bytes) (length table) ≡ none → StoppedAt (size_in s.setup) (words_of bytes) table (count_in (power_in s.setup) bytes) from r
  pub exact : gate (state_of s) (length bytes) (length table) ≡ none → Fits s (words_of bytes) table → r ≡ empty_in (state_power (state_of s)) bytes from

abbrev pub EmptiedBy : Control → Setup → (from : ℕ) (bytes table : List ℕ) → Report → Type 0
EmptiedBy c k from bytes table r = (b : List ℕ) → Emptied (session_of c k b) from bytes table r
