-- The chunk's words read once into a copy, and what is gathered from that: entry by entry, the copy's first word being
-- word `at` of the image.
-- Assumes nothing.
use Rattle.std.specs.Prelude.{◌≡◌, ℕ, ◌+◌, ◌<◌, ◌≤◌, Bool, List, [], ◌∷◌, ◌++◌, length, take, drop}
use Rattle.std.proofs.Math.Seq.{slice}
use Rattle.spec.specs.declared.Size.{Size}
use Rattle.places.specs.Sizes.{power_of}
use Rattle.spec.specs.Places.{chunk_words, chunk_bytes}
use Rattle.spec.specs.Basics.{filter}
use Rattle.spec.specs.Words.{words_of}
use Rattle.spec.specs.Log.{Entry, encode, encode_all, moved}
use Rattle.theory_log.specs.Contents.{Mem}
use Rattle.logs.specs.declared.Cursor.{Cursor}
use Rattle.logs.specs.Cursor.{cursor_at, left}
use Rattle.forward.proofs.Walks.{Left}
use Rattle.session.specs.State.{buffer_part}
use Rattle.session.specs.Cleaned.{kept_of}
use Rattle.gathering.specs.declared.measure.Tally.{Tally}
use Rattle.gathering.specs.Measuring.{Gatherable, kept_test}

-- the first n words of the copy are those of the image from `at` to `end`
pub record ChunkRead (size : Size) (image copy : List ℕ) (at end n : ℕ) : Type 0 where
  pub long : length copy ≡ chunk_bytes (power_of size)
  pub few : n ≤ chunk_words (power_of size)
  pub words : end ≤ at + chunk_words (power_of size) → slice 0 n (words_of copy) ≡ slice at end (words_of image)

-- entries of the copy, at their places in the image
abbrev pub lifted : ℕ → List Entry → List Entry
lifted at [] = []
lifted at (e ∷ es) = moved (at + e.at) e ∷ lifted at es

-- the words gathered so far, and those of the entries `todo`, are those of all that the test keeps
pub record Owing (kept : List ℕ) (test : Entry → Bool) (mid : List Entry) (t : Tally) (todo : List Entry) : Type 0 where
  pub words : encode_all (filter test mid) ≡ buffer_part kept 0 t.words ++ encode_all (filter test todo)
  pub count : length (filter test mid) ≡ t.entries + length (filter test todo)
  pub inside : (e : Entry) → Mem e todo → Mem e mid

-- before and after one entry, kept or not, with so many words of value
pub record OneTaken (size : Size) (ws kept kept' : List ℕ) (t : Tally) (is : Bool) (place value : ℕ) (t' : Tally) : Type 0 where
  pub long : length kept' ≡ chunk_words (power_of size)
  pub bound : t.words ≤ chunk_words (power_of size) → t'.words ≤ chunk_words (power_of size)
  pub adds : (test : Entry → Bool) (mid todo : List Entry) (e : Entry) → length (encode_all (filter test mid)) ≤ chunk_words (power_of size) → place < 0x40_0000 → is ≡ test e → length e.value ≡ value
      → take (2 + value) (drop place ws) ≡ encode e → place + (2 + value) ≤ length ws → Owing kept test mid t (e ∷ todo) → Owing kept' test mid t' todo

-- up to a cursor of the copy, whose words are ws
pub record Collecting (size : Size) (ws table kept : List ℕ) (at n : ℕ) (t : Tally) (c : Cursor) : Type 0 where
  pub long : length kept ≡ chunk_words (power_of size)
  pub bound : t.words ≤ chunk_words (power_of size)
  pub goes : (real : List ℕ) (end keys : ℕ) (xs mid ys : List Entry) → n ≤ chunk_words (power_of size) → length ws ≡ chunk_words (power_of size) → slice 0 n ws ≡ slice at end real → Gatherable size real table keys at end xs mid ys
      → (todo : List Entry) × Left size ws c todo × Owing kept (kept_test xs mid ys) mid t (lifted at todo)

-- a run of puts from word `from` on, before word `until`, which goes to word `at'`
pub record PutsTaken (size : Size) (ws table kept kept' : List ℕ) (at until from : ℕ) (t : Tally) (at' : ℕ) (t' : Tally) : Type 0 where
  pub nearer : (c : ℕ) → left 0 ws (cursor_at c at' until) ≤ left 0 ws (cursor_at c from until)
  pub long : length kept ≡ chunk_words (power_of size) → length kept' ≡ chunk_words (power_of size)
  pub keeps : (n c : ℕ) → Collecting size ws table kept at n t (cursor_at c from until) → Collecting size ws table kept' at n t' (cursor_at c at' until)

-- all entries
pub record Walked (size : Size) (ws table kept : List ℕ) (at n : ℕ) (t : Tally) : Type 0 where
  pub long : length kept ≡ chunk_words (power_of size)
  pub bound : t.words ≤ chunk_words (power_of size)
  pub gathers : (real : List ℕ) (end keys : ℕ) (xs mid ys : List Entry) → n ≤ chunk_words (power_of size) → length ws ≡ chunk_words (power_of size) → slice 0 n ws ≡ slice at end real → Gatherable size real table keys at end xs mid ys
      → (buffer_part kept 0 t.words ≡ encode_all (kept_of xs mid ys)) × (t.entries ≡ length (kept_of xs mid ys))

-- and those from a cursor on
pub record RestTaken (size : Size) (ws table kept kept' : List ℕ) (at n : ℕ) (c : Cursor) (t t' : Tally) : Type 0 where
  pub walks : Collecting size ws table kept at n t c → Walked size ws table kept' at n t'

-- THE GATHERING, into memory of the call's own: of any memory, and where the table is that of the image's entries
pub record Collected (size : Size) (ws table kept : List ℕ) (at end : ℕ) (t : Tally) : Type 0 where
  pub long : length kept ≡ chunk_words (power_of size)
  pub bound : t.words ≤ chunk_words (power_of size)
  pub gathers : (keys : ℕ) (xs mid ys : List Entry) → Gatherable size ws table keys at end xs mid ys
      → (buffer_part kept 0 t.words ≡ encode_all (kept_of xs mid ys)) × (t.entries ≡ length (kept_of xs mid ys))
