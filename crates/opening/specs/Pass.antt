-- What the first pass over the log does to key table and sums: one more entry, a run of them, and all of them.
-- Assumes nothing.
use Rattle.std.specs.Prelude.{◌≡◌, Bool, true, false, List, [], ◌∷◌, ◌++◌, ℕ, ◌+◌, ◌-◌, ◌%◌, ◌^◌, ◌≤◌, ◌<◌, length, get_or, ltb, Result, Ok, Err}
use Rattle.std.specs.Bool.{then_some}
use Rattle.spec.specs.declared.Size.{Size}
use Rattle.places.specs.Sizes.{power_of}
use Rattle.spec.specs.Basics.{both}
use Rattle.spec.specs.Places.{max_chunks}
use Rattle.spec.specs.Log.{Entry, Wrong, Entries, prepend, image_entries}
use Rattle.index.specs.Index.{get, put_at}
use Rattle.volatile.specs.Known.{own_of, noted, Bounded, FillInv}
use Rattle.volatile.specs.Plain.{Single, Direct, PlainInv}
use Rattle.buffer.specs.Areas.{sums_start, sums_count}
use Rattle.volatile.specs.Sums.{chosen_sum, Summed}
use Rattle.volatile.specs.Change.{only, SumsAlone, Renewed}
use Rattle.logs.specs.declared.Cursor.{Cursor}
use Rattle.logs.specs.declared.WrongEntry.{WrongEntry}
use Rattle.opening.specs.declared.fill.Filled.{Filled}
use Rattle.logs.specs.Cursor.{cursor_at, remaining, left}

-- the table before and after one more entry of a key, of which it would hold `own` with this entry alone; with the
-- numbers before and after
pub record Entering (size : Size) (table table' : List ℕ) (keys : ℕ) (fits single : Bool) (key own keys' : ℕ) (fits' single' : Bool) : Type 0 where
  pub sized : length table' ≡ length table
  pub enters : (xs : List Entry) (e : Entry) → e.key ≡ key → own_of size e ≡ own → Bounded size (xs ++ e ∷ [])
      → FillInv size (length table) xs table keys fits → FillInv size (length table) (xs ++ e ∷ []) table' keys' fits'
  pub singly : single' ≡ true → (single ≡ true) × (fits ≡ true) × (fits' ≡ true) × (noted size (get table key) own < 0x8000_0000_0000_0000)

-- table and sums before and after one more entry of a key of which the table has the word `old` in a slot
pub record AgainIs (size : Size) (ws buffer buffer' table table' : List ℕ) (single : Bool) (slot old key own w : ℕ) (single' : Bool) : Type 0 where
  pub put : table' ≡ put_at table slot key (noted size old own)
  pub low : single' ≡ both single (ltb (noted size old own) 0x8000_0000_0000_0000)
  pub renewed : Renewed size ws buffer buffer' old own w

-- the same with the sums, w being the entry's weight: they are renewed as long as the keys fit
pub record EnteredIs (size : Size) (ws buffer buffer' table table' : List ℕ) (keys : ℕ) (fits single : Bool) (key own w keys' : ℕ) (fits' single' : Bool) : Type 0 where
  pub entered : Entering size table table' keys fits single key own keys' fits' single'
  pub kept : SumsAlone buffer buffer'
  pub renewed : fits' ≡ true → (fits ≡ true) × Renewed size ws buffer buffer' (get table key) own w

-- the sums are those of the entries xs, once so many words more are in the sum of the chunk of word `place`
pub record Owing (size : Size) (buffer : List ℕ) (place owed : ℕ) (xs : List Entry) : Type 0 where
  pub each : (c : ℕ) → c < sums_count → (get_or buffer (sums_start + c) 0 + only size place owed c) % 2 ^ 64 ≡ chosen_sum size c xs % 2 ^ 64
  pub narrow : (c : ℕ) → c < sums_count → get_or buffer (sums_start + c) 0 < 2 ^ 64

-- the pass on its way: some entries are passed, and the rest is what remains from the cursor
pub record Passing (size : Size) (n : ℕ) (ws : List ℕ) (words : ℕ) (table : List ℕ) (keys : ℕ) (fits single direct : Bool) (buffer : List ℕ) (place owed : ℕ) (c : Cursor) : Type 0 where
  pub sized : length table ≡ words
  pub passed : List Entry
  pub so_far : image_entries (power_of size) n ws ≡ prepend passed (remaining (power_of size) n ws c)
  pub holds : n ≤ max_chunks → (es : List Entry) → image_entries (power_of size) n ws ≡ Entries es → FillInv size words passed table keys fits × PlainInv size passed single direct fits × (fits ≡ true → Owing size buffer place owed passed)

-- table and sums before and after a run of the pass up to word `end` of any chunk: the pass is then farther, by the
-- table's new numbers, and the words passed from word `from` on are owed to the sum of the chunk
pub record Hastened (size : Size) (ws : List ℕ) (end : ℕ) (fits : Bool) (table : List ℕ) (keys : ℕ) (single : Bool) (buffer : List ℕ) (at : ℕ) (table' : List ℕ) (keys' : ℕ) (single' : Bool) (buffer' : List ℕ) (from at' : ℕ) : Type 0 where
  pub sized : length table' ≡ length table
  pub kept : SumsAlone buffer buffer'
  pub nearer : (n c : ℕ) → left n ws (cursor_at c at' end) ≤ left n ws (cursor_at c at end)
  pub start : at ≤ from
  pub farther : from ≤ at'
  pub passes : (n c words : ℕ) (direct : Bool) → Passing size n ws words table keys fits single direct buffer 0 0 (cursor_at c at end) → Passing size n ws words table' keys' fits single' direct buffer' from (at' - from) (cursor_at c at' end)

-- from word `at` to word `at'` of any chunk stands padding
pub record Skipped (ws : List ℕ) (end at at' : ℕ) : Type 0 where
  pub nearer : (n c : ℕ) → left n ws (cursor_at c at' end) ≤ left n ws (cursor_at c at end)
  pub same : (p n c : ℕ) → remaining p n ws (cursor_at c at end) ≡ remaining p n ws (cursor_at c at' end)

-- table and sums before and after the pass over the log of an image of n chunks
pub record Filling (size : Size) (n : ℕ) (ws table table' buffer buffer' : List ℕ) (right fits single direct : Bool) (keys : ℕ) : Type 0 where
  pub sized : length table' ≡ length table
  pub kept : SumsAlone buffer buffer'
  pub wrong : image_entries (power_of size) n ws ≡ Wrong → right ≡ false
  pub entries : n ≤ max_chunks → (es : List Entry) → image_entries (power_of size) n ws ≡ Entries es → (right ≡ true) × FillInv size (length table) es table' keys fits
  pub singly : n ≤ max_chunks → (es : List Entry) → image_entries (power_of size) n ws ≡ Entries es → single ≡ true → Single es
  pub directly : n ≤ max_chunks → (es : List Entry) → image_entries (power_of size) n ws ≡ Entries es → direct ≡ true → Direct es
  pub summed : n ≤ max_chunks → (es : List Entry) → image_entries (power_of size) n ws ≡ Entries es → fits ≡ true → Summed size buffer' es

-- the same by what the pass answers: a wrong entry, or the numbers of the table
abbrev pub FilledIs : (size : Size) → ℕ → List ℕ → (table table' buffer buffer' : List ℕ) → Result Filled WrongEntry → Type 0
FilledIs size n ws table table' buffer buffer' (Ok f) = (keys : ℕ) × (fits : Bool) × Filling size n ws table table' buffer buffer' true fits f.single f.direct keys × (f.keys ≡ then_some fits keys)
FilledIs size n ws table table' buffer buffer' (Err wrong) = Filling size n ws table table' buffer buffer' false false false false 0
