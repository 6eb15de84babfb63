-- What a cleaning keeps of a chunk: whether an entry is kept, and how many words and entries are.
-- Assumes nothing.
use Rattle.std.specs.Prelude.{◌≡◌, ℕ, ◌+◌, ◌*◌, ◌<◌, ◌≤◌, Bool, true, false, ◌⊎◌, List, ◌∷◌, ◌++◌, length}
use Rattle.spec.specs.declared.Size.{Size}
use Rattle.places.specs.Sizes.{power_of}
use Rattle.spec.specs.Places.{chunk_words}
use Rattle.spec.specs.Basics.{filter}
use Rattle.spec.specs.Log.{Entry, Entries, encode_all}
use Rattle.spec.specs.Contents.{is_kept}
use Rattle.theory_log.specs.Contents.{Mem}
use Rattle.logs.specs.Cursor.{cursor_at, remaining, left}
use Rattle.index.specs.Index.{get}
use Rattle.packing.specs.Packed.{unpack_of}
use Rattle.volatile.specs.Known.{entry_count, Bounded, Indexed}
use Rattle.session.specs.Cleaned.{before, kept_of, Stand}
use Rattle.gathering.specs.declared.measure.Tally.{Tally}

-- the entries `mid` of a chunk stand in the words from `at` to `end`, and the table is that of all entries
pub record Gatherable (size : Size) (ws table : List ℕ) (keys at end : ℕ) (xs mid ys : List Entry) : Type 0 where
  pub here : Stand ws at end mid
  pub short : end ≤ at + chunk_words (power_of size)
  pub indexed : Indexed size table keys (before xs mid ys)
  pub small : Bounded size (before xs mid ys)

-- how many entries of each key stand in these words, in a key table for that
pub record Counted (size : Size) (ws counts : List ℕ) (at end : ℕ) : Type 0 where
  pub says : (mid : List Entry) → Stand ws at end mid → end ≤ at + chunk_words (power_of size) → (k : ℕ) → get counts k ≡ entry_count k mid

-- that key table before and after
pub record Counting (size : Size) (ws : List ℕ) (at end : ℕ) (counts counts' : List ℕ) : Type 0 where
  pub sized : length counts' ≡ length counts
  pub counted : length counts ≡ 2 * chunk_words (power_of size) → Counted size ws counts' at end

-- what is known of it
abbrev pub Tells : (size : Size) → (ws counts : List ℕ) (at end : ℕ) (counted : Bool) → Type 0
Tells size ws counts at end counted = (length counts ≡ 2 * chunk_words (power_of size)) × (counted ≡ true → Counted size ws counts at end)

-- table and counts decide whether an entry with this operation and key is kept
abbrev pub Decided : (size : Size) → (ws table counts : List ℕ) (at end op key : ℕ) → Type 0
Decided size ws table counts at end op key = (op ≡ 1) ⊎ (((unpack_of size (get table key)).entries ≡ 1) ⊎ Counted size ws counts at end)

pub record CountedOnce (size : Size) (ws table : List ℕ) (at end : ℕ) (counts counts' : List ℕ) (op key : ℕ) (counted counted' : Bool) : Type 0 where
  pub tells : Tells size ws counts at end counted → Tells size ws counts' at end counted'
  pub decides : Tells size ws counts at end counted → Decided size ws table counts' at end op key

-- whether the entry with these parts, which stands in these words, is kept
pub record KeptTest (size : Size) (table counts : List ℕ) (op key place : ℕ) (r : Bool) : Type 0 where
  pub kept : (ws : List ℕ) (at end keys : ℕ) (xs mid ys : List Entry) (e : Entry) → Gatherable size ws table keys at end xs mid ys → Decided size ws table counts at end op key → Mem e mid → e.op ≡ op → e.key ≡ key → e.at ≡ place → r ≡ is_kept (before xs mid ys) (xs ++ ys) e

abbrev pub kept_test : (xs mid ys : List Entry) → Entry → Bool
kept_test xs mid ys = is_kept (before xs mid ys) (xs ++ ys)

-- there is room for so many words of value behind so many words
pub record Room (size : Size) (words entries place value : ℕ) (r : Bool) : Type 0 where
  pub fits : r ≡ true → (words + (2 + value) ≤ chunk_words (power_of size)) × (entries < chunk_words (power_of size)) × (place < 0x40_0000)
  pub lacks : r ≡ false → words + (2 + value) ≤ chunk_words (power_of size) → entries < chunk_words (power_of size) → place < 0x40_0000 → ⊥

-- MEASURING, for a plan that may yet be refused, and for choosing
pub record Weighing (test : Entry → Bool) (mid : List Entry) (t : Tally) (left : List Entry) : Type 0 where
  pub words : length (encode_all (filter test mid)) ≡ t.words + length (encode_all (filter test left))
  pub count : length (filter test mid) ≡ t.entries + length (filter test left)
  pub inside : (e : Entry) → Mem e left → Mem e mid

pub record OneWeighed (size : Size) (t : Tally) (kept : Bool) (place value : ℕ) (t' : Tally) : Type 0 where
  pub bound : t.words ≤ chunk_words (power_of size) → t'.words ≤ chunk_words (power_of size)
  pub adds : (ws table : List ℕ) (at end keys : ℕ) (xs mid ys left : List Entry) (e : Entry) → Gatherable size ws table keys at end xs mid ys → kept ≡ kept_test xs mid ys e → e.at ≡ place
      → length e.value ≡ value → Weighing (kept_test xs mid ys) mid t (e ∷ left) → Weighing (kept_test xs mid ys) mid t' left

-- before and after a run of puts, from word `from` on and before word `until`, which goes to word `at'`: what is left
-- from there on is owed
pub record Hastened (size : Size) (ws table : List ℕ) (until from : ℕ) (t : Tally) (at' : ℕ) (t' : Tally) : Type 0 where
  pub nearer : (n c : ℕ) → left n ws (cursor_at c at' until) ≤ left n ws (cursor_at c from until)
  pub bound : t.words ≤ chunk_words (power_of size) → t'.words ≤ chunk_words (power_of size)
  pub passes : (c at end keys : ℕ) (xs mid ys es : List Entry) → Gatherable size ws table keys at end xs mid ys → remaining (power_of size) 0 ws (cursor_at c from until) ≡ Entries es → Weighing (kept_test xs mid ys) mid t es
      → (es' : List Entry) × (remaining (power_of size) 0 ws (cursor_at c at' until) ≡ Entries es') × Weighing (kept_test xs mid ys) mid t' es'

pub record Measured (size : Size) (ws table : List ℕ) (at end : ℕ) (t : Tally) : Type 0 where
  pub bound : t.words ≤ chunk_words (power_of size)
  pub measures : (keys : ℕ) (xs mid ys : List Entry) → Gatherable size ws table keys at end xs mid ys
      → (t.words ≡ length (encode_all (kept_of xs mid ys))) × (t.entries ≡ length (kept_of xs mid ys))
