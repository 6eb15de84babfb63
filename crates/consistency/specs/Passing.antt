-- What a pass over some classes tells: the entries that it passed over, and the table of the others.
-- Assumes nothing.
use Rattle.std.specs.Prelude.{◌≡◌, Bool, true, false, Option, Some, List, [], ◌∷◌, ◌++◌, ℕ, ◌+◌, ◌≤◌, ◌<◌, length}
use Rattle.spec.specs.declared.Size.{Size}
use Rattle.places.specs.Sizes.{power_of}
use Rattle.spec.specs.Places.{max_chunks}
use Rattle.spec.specs.Log.{Entry, Entries, image_entries}
use Rattle.spec.specs.Blocks.{pointed}
use Rattle.theory_log.specs.Contents.{Mem}
use Rattle.index.specs.Index.{slots, info_at, get}
use Rattle.logs.specs.declared.Cursor.{Cursor}
use Rattle.logs.specs.Cursor.{cursor_at, remaining, left, Opened}
use Rattle.volatile.specs.Known.{own_of, Bounded, Indexed, FillInv}
use Rattle.consistency.specs.Classes.{marked, asked, class_in}

-- from the cursor on remains what follows the entries xs
pub record Passed (p n : ℕ) (ws : List ℕ) (c : Cursor) (es xs : List Entry) : Type 0 where
  pub rest : List Entry
  pub split : es ≡ xs ++ rest
  pub remains : remaining p n ws c ≡ Entries rest

-- from word `at` to word `at'` of any chunk stand entries that a pass may leave out: no value of them lies in a
-- block, and none is asked for
pub record PassedOver (ws : List ℕ) (end : ℕ) (single : Bool) (marks : List ℕ) (low high at at' : ℕ) : Type 0 where
  pub nearer : (n c : ℕ) → left n ws (cursor_at c at' end) ≤ left n ws (cursor_at c at end)
  pub over : List Entry
  pub unpointed : (e : Entry) → Mem e over → pointed e ≡ false
  pub unasked : (e : Entry) → Mem e over → asked single marks low high e.key ≡ false
  pub passes : (p n c : ℕ) (es xs : List Entry) → Passed p n ws (cursor_at c at end) es xs → Passed p n ws (cursor_at c at' end) es (xs ++ over)

-- the chunks from c on that have no committed words are passed: what remains from the beginning of chunk c remains from
-- the cursor
pub record Onward (p n : ℕ) (ws : List ℕ) (c : ℕ) (r : Cursor) : Type 0 where
  pub first : Cursor
  pub opened : Opened p ws c first
  pub nearer : left n ws r ≤ left n ws first
  pub same : remaining p n ws first ≡ remaining p n ws r

-- the table before and after one more entry of a key, of which it would hold `own` with this entry alone; with the
-- number of keys before, and after if they fit
pub record Entering (size : Size) (table table' : List ℕ) (keys low high key own : ℕ) (r : Option ℕ) : Type 0 where
  pub sized : length table' ≡ length table
  pub enters : (xs : List Entry) (e : Entry) → e.key ≡ key → own_of size e ≡ own → Bounded size (class_in low high (xs ++ e ∷ [])) → FillInv size (length table) (class_in low high xs) table keys true
      → (keys' : ℕ) → r ≡ Some keys' → FillInv size (length table) (class_in low high (xs ++ e ∷ [])) table' keys' true

-- the table before and after a pass over the log of an image of n chunks, with the number of its keys if they fit
pub record Collecting (size : Size) (n : ℕ) (ws table table' : List ℕ) (low high : ℕ) (r : Option ℕ) : Type 0 where
  pub sized : length table' ≡ length table
  pub holds : n ≤ max_chunks → (es : List Entry) → image_entries (power_of size) n ws ≡ Entries es → (keys : ℕ) → r ≡ Some keys → Indexed size table' keys (class_in low high es)

-- the mark of a key is set if its word has the bit of several top entries, and no mark is taken away
pub record OneMarked (marks marks' : List ℕ) (key info : ℕ) : Type 0 where
  pub own : 0x8000_0000_0000_0000 ≤ info → marked marks' key ≡ true
  pub others : (k : ℕ) → marked marks k ≡ true → marked marks' k ≡ true

-- none of four slots from s on has the bit of several top entries
pub record QuietFrom (table : List ℕ) (s : ℕ) (r : Bool) : Type 0 where
  pub fits : r ≡ true → s + 4 ≤ slots table
  pub low : r ≡ true → (j : ℕ) → s ≤ j → j < s + 4 → info_at table j < 0x8000_0000_0000_0000

-- every key that has several top entries by the table has its mark
pub record TwinsMarked (table marks : List ℕ) : Type 0 where
  pub twins : (k : ℕ) → 0x8000_0000_0000_0000 ≤ get table k → marked marks k ≡ true
