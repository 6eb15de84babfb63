-- The entries of a key by one pass over the log: each is written behind those before it, and counted.
-- Assumes nothing.
use Rattle.std.specs.Prelude.{◌≡◌, ℕ, ◌+◌, ◌*◌, ◌/◌, ◌%◌, List, length, ◌==◌, nat_le}
use Rattle.std.proofs.Math.Option.{Option, none, some}
use Rattle.std.proofs.lemmas.List.Edits.{sets}
use Rattle.spec.specs.Basics.{pick, both}
use Rattle.spec.specs.Log.{Entry}
use Rattle.inspect.specs.declared.history.KeyEntry.{KeyEntry}
use Rattle.inspect.specs.KeyEntries.{entry_words, spelt}

abbrev pub in_numbers : (place op version block field chosen : ℕ) → KeyEntry
in_numbers place op version block field chosen =
    record { found = 1; place = place; op = op; version = version; block = block; field = field; chosen = chosen }

-- an entry's words behind those of `index` entries; nothing where they do not fit
abbrev pub put : List ℕ → (index : ℕ) → KeyEntry → List ℕ
put out index e = pick (nat_le (length out / entry_words) index) out (sets out (entry_words * index) (spelt e))

-- the lent words, and the entries met so far, modulo 2^64
pub record Filling : Type 0 where
  pub words : List ℕ
  pub count : ℕ

abbrev pub filling : List ℕ → ℕ → Filling
filling words count = record { words = words; count = count }

abbrev pub more : Filling → KeyEntry → Filling
more s e = filling (put s.words s.count e) ((s.count + 1) % 0x1_0000_0000_0000_0000)

-- `best` is the place of the entry that the register goes by
abbrev pub note_of : (key from best : ℕ) → Filling → (k place op version block field : ℕ) → Filling
note_of key from best s k place op version block field =
    pick (both (k == key) (nat_le from place)) (more s (in_numbers place op version block field (pick (best == place) 1 0))) s

abbrev pub pass : (key from best : ℕ) → Filling → Entry → Filling
pass key from best s e = note_of key from best s e.key e.at e.op e.version e.placement e.field

-- what the pass leaves and answers, where no entry is wrong
abbrev pub Leaves : Option Filling → (out' : List ℕ) (count : ℕ) → Type 0
Leaves none out' count = Unit {0}
Leaves (some s) out' count = (out' ≡ s.words) × (count ≡ s.count)
