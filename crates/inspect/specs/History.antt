-- The entries of a key that stand in the log, one by one: the first that stands at or behind a word.
-- Assumes nothing.
use Rattle.std.specs.Prelude.{ℕ, Bool, List, ◌==◌, nat_le}
use Rattle.std.proofs.Math.Option.{Option, none, some}
use Rattle.spec.specs.Basics.{pick, both, filter, first}
use Rattle.spec.specs.Log.{Entry, image_entries}
use Rattle.spec.specs.Contents.{chosen, is_at, entries_in}
use Rattle.theory_log.specs.Fold.{fold_p}
use Rattle.logs.specs.declared.Best.{Best}
use Rattle.inspect.specs.declared.history.KeyEntry.{KeyEntry}

-- ## The log

abbrev pub is_from : (key from : ℕ) → Entry → Bool
is_from key from e = both (e.key == key) (nat_le from e.at)

-- the first entry of a key at or behind a word, in order of chunk, then offset
abbrev pub next_of : (key from : ℕ) → List Entry → Option Entry
next_of key from es = first (filter (is_from key from) es)

-- ## In numbers

abbrev pub no_entry : KeyEntry
no_entry = record { found = 0; place = 0; op = 0; version = 0; block = 0; field = 0; chosen = 0 }

abbrev pub entry_with : (mark : ℕ) → Entry → KeyEntry
entry_with mark e = record { found = 1; place = e.at; op = e.op; version = e.version; block = e.placement; field = e.field; chosen = mark }

-- with 1 for the chosen entry of the key, by which the register goes, and 0 for every other
abbrev pub numbered : (key : ℕ) → List Entry → Entry → KeyEntry
numbered key es e = entry_with (pick (is_at (chosen key es) e.at) 1 0) e

abbrev pub numbers_of : (key : ℕ) → List Entry → Option Entry → KeyEntry
numbers_of key es none = no_entry
numbers_of key es (some e) = numbered key es e

-- of an image of n chunks; none where an entry of its log is wrong
unfoldable pub entry_from : ℕ → ℕ → List ℕ → (key from : ℕ) → KeyEntry
entry_from p n ws key from = numbers_of key (entries_in p n ws) (next_of key from (entries_in p n ws))

-- ## By one pass over the log

abbrev pub note_of : (key from : ℕ) → KeyEntry → (k place op version block field : ℕ) → KeyEntry
note_of key from so k place op version block field =
    pick (both (so.found == 0) (both (k == key) (nat_le from place)))
    (record { found = 1; place = place; op = op; version = version; block = block; field = field; chosen = 0 }) so

abbrev pub pass : (key from : ℕ) → KeyEntry → Entry → KeyEntry
pass key from so e = note_of key from so e.key e.at e.op e.version e.placement e.field

abbrev pub or_none : Option KeyEntry → KeyEntry
or_none none = no_entry
or_none (some e) = e

unfoldable pub first_in : ℕ → ℕ → List ℕ → (key from : ℕ) → KeyEntry
first_in p n ws key from = or_none (fold_p (pass key from) no_entry (image_entries p n ws))

-- 1 where the entry stands at the chosen one's place
abbrev pub mark_of : KeyEntry → Best → KeyEntry
mark_of e best =
    pick (e.found == 0) e
    (pick (best.place == e.place)
    (record { found = e.found; place = e.place; op = e.op; version = e.version; block = e.block; field = e.field; chosen = 1 }) e)
