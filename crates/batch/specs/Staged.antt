-- What stands at a place of the staged words, for a reader that takes them as they come.
-- Assumes nothing.
use Rattle.std.specs.Prelude.{◌≡◌, List, [], ◌∷◌, ℕ, ◌+◌, ◌-◌, ◌≤◌, length, Option, Some, None}
use Rattle.spec.specs.Log.{Entry, encode_all}
use Rattle.theory_log.specs.Batch.{AllRight}
use Rattle.session.specs.State.{buffer_part}
use Rattle.logs.specs.declared.ShortPut.{ShortPut}
use Rattle.batch.specs.declared.StagedEntry.{StagedEntry}

-- what stands in the buffer's words from `at` to `end`, if they are those of entries: one as told, and the others
-- behind it
pub record Taken (buffer : List ℕ) (at end : ℕ) (told : StagedEntry) (rest : List Entry) : Type 0 where
  pub entry : Entry
  pub others : List Entry
  pub all : rest ≡ entry ∷ others
  pub of-op : entry.op ≡ told.op
  pub of-placement : entry.placement ≡ told.placement
  pub of-version : entry.version ≡ told.version
  pub of_field : entry.field ≡ told.field
  pub of-key : entry.key ≡ told.key
  pub size : length entry.value ≡ told.words
  pub behind : buffer_part buffer (at + (2 + told.words)) (end - (at + (2 + told.words))) ≡ encode_all others

abbrev pub StagedFrom : List ℕ → (at end : ℕ) → List Entry → Type 0
StagedFrom buffer at end rest = AllRight rest × (buffer_part buffer at (end - at) ≡ encode_all rest)

abbrev pub Staged : List ℕ → (at end : ℕ) → Option StagedEntry → Type 0
Staged buffer at end None = (rest : List Entry) → StagedFrom buffer at end rest → rest ≡ []
Staged buffer at end (Some told) = (at + (2 + told.words) ≤ end) × ((rest : List Entry) → StagedFrom buffer at end rest → Taken buffer at end told rest)

-- a put with its value in the log, as an entry
abbrev pub put_of : ShortPut → StagedEntry
put_of p = record { op = 1; placement = 0; version = p.version; field = p.field; key = p.key; words = p.words }

-- the same of a put with its value in the log; of anything else nothing is said
abbrev pub ShortStaged : List ℕ → (at end : ℕ) → Option ShortPut → Type 0
ShortStaged buffer at end None = Unit {0}
ShortStaged buffer at end (Some p) = Staged buffer at end (Some (put_of p))
