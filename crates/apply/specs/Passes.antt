-- What the pass over the entries of a chunk does to the key table: one entry, a run of puts, and all of them, at a
-- cleaning's last fence.
-- Assumes nothing.
use Rattle.std.specs.Prelude.{◌≡◌, ℕ, ◌+◌, ◌<◌, ◌≤◌, Bool, List, [], ◌∷◌, length, Option, Some, None}
use Rattle.spec.specs.declared.Size.{Size}
use Rattle.places.specs.Sizes.{power_of}
use Rattle.spec.specs.Basics.{is_in, filter}
use Rattle.spec.specs.Places.{max_chunks, base, word_chunk}
use Rattle.spec.specs.Log.{Entry, Entries, placed, image_entries}
use Rattle.spec.specs.Contents.{live_blocks}
use Rattle.spec.specs.Opening.{Accepted, open_log}
use Rattle.logs.specs.Cursor.{cursor_at, remaining, left}
use Rattle.buffer.specs.Bits.{has_bit}
use Rattle.volatile.specs.Known.{Indexed}
use Rattle.volatile.specs.Sums.{Summed}
use Rattle.session.specs.Cleaned.{before, copies_of, after, Cleaned, Moves, Stand}
use Rattle.apply.specs.Leaving.{Leaving, Marked}
use Rattle.apply.specs.declared.remove.Removed.{Removed}
use Rattle.apply.specs.declared.remove.Run.{Run}

-- whether the chosen entry with this operation and key has a copy, the copies still to come standing from `to` to
-- `until`
pub record IsCopied (ws : List ℕ) (to until op key : ℕ) (r : Bool) : Type 0 where
  pub marks : (test : Entry → Bool) (left : List Entry) (e : Entry) → e.op ≡ op → e.key ≡ key → Stand ws to until (placed to (filter test (e ∷ left))) → Marked test r left e

-- the table, with so many keys, before and after the entry of a key at this place, of so many words, leaves
abbrev pub EntryLeaves : (size : Size) → (table table' : List ℕ) (keys key place to words : ℕ) → Bool → Option Removed → Type 0
EntryLeaves size table table' keys key place to words copied (Some r) =
    (ws : List ℕ) (until : ℕ) (es mid out : List Entry) (test : Entry → Bool) (left : List Entry) (e : Entry) → e.key ≡ key → e.at ≡ place → words ≡ 2 + length e.value → words < 0x4000_0000_0000_0000
    → Marked test copied left e → Leaving size ws until es mid out test table keys (e ∷ left) to → Leaving size ws until es mid out test table' r.keys left r.to
EntryLeaves size table table' keys key place to words copied None = Unit {0}

pub record OneLeft (size : Size) (table table' : List ℕ) (keys key place to words : ℕ) (copied : Bool) (r : Option Removed) : Type 0 where
  pub sized : length table' ≡ length table
  pub leaves : EntryLeaves size table table' keys key place to words copied r

-- before and after a run of puts, from word `from` on and before word `end`
pub record Passing (size : Size) (ws table table' : List ℕ) (keys from end to : ℕ) (r : Run) : Type 0 where
  pub nearer : (n c : ℕ) → left n ws (cursor_at c r.at end) ≤ left n ws (cursor_at c from end)
  pub passes : (c until : ℕ) (es mid out : List Entry) (test : Entry → Bool) (todo : List Entry) → remaining (power_of size) 0 ws (cursor_at c from end) ≡ Entries todo → Leaving size ws until es mid out test table keys todo to
      → (todo' : List Entry) × (remaining (power_of size) 0 ws (cursor_at c r.at end) ≡ Entries todo') × Leaving size ws until es mid out test table' r.keys todo' r.to

abbrev pub PutsPass : (size : Size) → (ws table table' : List ℕ) (keys from end to : ℕ) → Option Run → Type 0
PutsPass size ws table table' keys from end to (Some r) = Passing size ws table table' keys from end to r
PutsPass size ws table table' keys from end to None = Unit {0}

pub record PutsLeft (size : Size) (ws table table' : List ℕ) (keys from end to : ℕ) (r : Option Run) : Type 0 where
  pub sized : length table' ≡ length table
  pub passing : PutsPass size ws table table' keys from end to r

-- and all of them
abbrev pub EntriesLeave : (size : Size) → (ws table table' : List ℕ) (keys at end from until : ℕ) → Option Removed → Type 0
EntriesLeave size ws table table' keys at end from until (Some r) =
    (es mid out : List Entry) (test : Entry → Bool) → Stand ws at end mid → Leaving size ws until es mid out test table keys mid from → Leaving size ws until es mid out test table' r.keys [] r.to
EntriesLeave size ws table table' keys at end from until None = Unit {0}

pub record AllLeft (size : Size) (ws table table' : List ℕ) (keys at end from until : ℕ) (r : Option Removed) : Type 0 where
  pub sized : length table' ≡ length table
  pub leaves : EntriesLeave size ws table table' keys at end from until r

-- table, bits and sums are those of the entries es
pub record Holds (size : Size) (buffer table : List ℕ) (keys : ℕ) (es : List Entry) : Type 0 where
  pub indexed : Indexed size table keys es
  pub blocks : (u : ℕ) → has_bit size buffer u ≡ is_in u (live_blocks es)
  pub sums : Summed size buffer es

-- key table, bits and sums built anew from an image of n chunks whose log is accepted
pub record Rebuilt (size : Size) (n : ℕ) (ws buffer buffer' table table' : List ℕ) (keys' : ℕ) : Type 0 where
  pub sized : length table' ≡ length table
  pub kept : length buffer' ≡ length buffer
  pub builds : n ≤ max_chunks → base (power_of size) n ≤ length ws → (es : List Entry) → open_log (power_of size) n ws (length table) (image_entries (power_of size) n ws) ≡ Accepted es → Holds size buffer' table' keys' es

-- AT A CLEANING'S LAST FENCE. The image shows the new entries alone. The words of the chunk still stand from `at` to
-- `end`, the copies, of so many words, from `from` to `until`. Table, bits and sums know the entries before.
pub record Emptied (size : Size) (n : ℕ) (ws buffer table : List ℕ) (keys at end from until words : ℕ) (xs mid ys as' bs : List Entry) : Type 0 where
  pub cleaned : Cleaned size xs mid ys as' bs from
  pub moves : Moves size (word_chunk (power_of size) at) words xs mid ys as' bs from
  pub here : Stand ws at end mid
  pub copied : Stand ws from until (copies_of xs mid ys from)
  pub most : n ≤ max_chunks
  pub long : base (power_of size) n ≤ length ws
  pub accepted : open_log (power_of size) n ws (length table) (image_entries (power_of size) n ws) ≡ Accepted (after xs mid ys as' bs from)
  pub holds : Holds size buffer table keys (before xs mid ys)

-- before and after the chunk's entries left: of any memory, and at that fence
pub record Emptying (size : Size) (n : ℕ) (ws buffer buffer' table table' : List ℕ) (keys at end from until words keys' : ℕ) : Type 0 where
  pub sized : length table' ≡ length table
  pub kept : length buffer' ≡ length buffer
  pub leaves : (xs mid ys as' bs : List Entry) → Emptied size n ws buffer table keys at end from until words xs mid ys as' bs → Holds size buffer' table' keys' (after xs mid ys as' bs from)
