-- The walk of the log: what remains of it from a cursor, and what a step of the walk tells.
-- Assumes nothing.
use Rattle.std.specs.Prelude.{◌≡◌, List, [], ℕ, suc, ◌+◌, ◌-◌, ◌*◌, ◌<◌, min, length, Option, Some, None, Result, Ok, Err}
use Rattle.std.proofs.Math.Seq.{slice}
use Rattle.spec.specs.Log as L
use Rattle.spec.specs.Log.{Parsed, Wrong, Entries, cons, join, parse, words_for, chunk_entries, all_from}
use Rattle.logs.specs.Stands.{entry_in, StandsIn}
use Rattle.logs.specs.declared.Cursor.{Cursor}
use Rattle.logs.specs.declared.Entry.{Entry}
use Rattle.logs.specs.declared.WrongEntry.{WrongEntry}

-- a place of a chunk, before the end of its committed words
abbrev pub cursor_at : (chunk at end : ℕ) → Cursor
cursor_at chunk at end = record { chunk = chunk; at = at; end = end }

-- the beginning of the log
abbrev pub start : Cursor
start = record { chunk = 0; at = 0; end = 0 }

-- the entries from a cursor on, in an image of n chunks: those of the cursor's chunk, then those of the chunks behind
-- it
unfoldable pub remaining : ℕ → ℕ → List ℕ → Cursor → Parsed
remaining p n ws c = join (parse (slice c.at c.end ws) 0 c.at) (all_from p (n - suc c.chunk) (suc c.chunk) ws)

-- a number that falls with each entry: how far the walk has to go
unfoldable pub left : ℕ → List ℕ → Cursor → ℕ
left n ws c = (n - c.chunk) * suc (length ws) + (min c.end (length ws) - c.at)

-- a cursor at the beginning of chunk c
pub record Opened (p : ℕ) (ws : List ℕ) (c : ℕ) (r : Cursor) : Type 0 where
  pub chunk : r.chunk ≡ c
  pub entries : parse (slice r.at r.end ws) 0 r.at ≡ chunk_entries p ws c

-- the entry that a step found, with its value's words
abbrev pub with_value : List ℕ → Entry → L.Entry
with_value ws e = entry_in ws e.op e.placement e.version e.field e.key e.words e.place

-- what a step tells of an entry, with the cursor before it
pub record Handed (p n : ℕ) (ws : List ℕ) (before : Cursor) (e : Entry) : Type 0 where
  pub whole : remaining p n ws before ≡ cons (with_value ws e) (remaining p n ws e.behind)
  pub falls : left n ws e.behind < left n ws before
  pub size : e.words ≡ words_for e.placement e.field
  pub stands : StandsIn ws (with_value ws e)

-- a step of the walk, from a cursor, in an image of n chunks
abbrev pub Advanced : ℕ → ℕ → List ℕ → Cursor → Result (Option Entry) WrongEntry → Type 0
Advanced p n ws c (Ok None) = remaining p n ws c ≡ Entries []
Advanced p n ws c (Ok (Some e)) = Handed p n ws c e
Advanced p n ws c (Err wrong) = remaining p n ws c ≡ Wrong
