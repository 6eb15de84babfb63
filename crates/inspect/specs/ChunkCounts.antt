-- What a chunk holds by the words of the key table, whatever these hold: its entries, or its blocks.
-- Assumes nothing.
use Rattle.std.specs.Prelude.{ℕ, ◌+◌, ◌%◌, Bool, List, ◌==◌}
use Rattle.std.proofs.Math.Option.{Option, none, some}
use Rattle.spec.specs.declared.Size.{Size}
use Rattle.places.specs.Sizes.{power_of}
use Rattle.spec.specs.Basics.{pick, both, negate}
use Rattle.spec.specs.Places.{unit_chunk}
use Rattle.spec.specs.Log.{Entry, chunk_entries, image_entries}
use Rattle.theory_log.specs.Fold.{fold_p}
use Rattle.index.specs.Index.{get}
use Rattle.packing.specs.Packed.{unpack_of}
use Rattle.consistency.specs.Heads.{points}
use Rattle.inspect.specs.declared.counts.Tally.{Tally}

-- the table holds this place of the key
abbrev pub chosen_by : (size : Size) → (table : List ℕ) (key place : ℕ) → Bool
chosen_by size table key place = (unpack_of size (get table key)).place == place

abbrev pub points_into : (size : Size) → (op placement field c : ℕ) → Bool
points_into size op placement field c = both (points op placement) (unit_chunk (power_of size) field == c)

-- one more, modulo 2^64
abbrev pub more : ℕ → Bool → ℕ
more n so = pick so ((n + 1) % 0x1_0000_0000_0000_0000) n

-- ## A log chunk, by its own entries

abbrev pub nothing : Tally
nothing = record { live = 0; deletes = 0; superseded = 0 }

abbrev pub count_entry : (size : Size) → List ℕ → Tally → (op key place : ℕ) → Tally
count_entry size table t op key place = record {
  live = more t.live (both (chosen_by size table key place) (op == 1));
  deletes = more t.deletes (both (chosen_by size table key place) (negate (op == 1)));
  superseded = more t.superseded (negate (chosen_by size table key place));
}

abbrev pub count_next : (size : Size) → List ℕ → Tally → Entry → Tally
count_next size table t e = count_entry size table t e.op e.key e.at

abbrev pub or_nothing : Option Tally → Tally
or_nothing none = nothing
or_nothing (some t) = t

-- of chunk c; nothing where an entry of it is wrong
unfoldable pub tally_by : (size : Size) → (ws table : List ℕ) (c : ℕ) → Tally
tally_by size ws table c = or_nothing (fold_p (count_next size table) nothing (chunk_entries (power_of size) ws c))

-- ## A data chunk, by all entries

abbrev pub count_block : (size : Size) → List ℕ → (c used op placement field key place : ℕ) → ℕ
count_block size table c used op placement field key place = more used (both (chosen_by size table key place) (points_into size op placement field c))

abbrev pub block_next : (size : Size) → List ℕ → (c : ℕ) → ℕ → Entry → ℕ
block_next size table c used e = count_block size table c used e.op e.placement e.field e.key e.at

abbrev pub or_zero : Option ℕ → ℕ
or_zero none = 0
or_zero (some n) = n

-- of chunk c, over the log of an image of n chunks; 0 where an entry is wrong
unfoldable pub blocks_by : (size : Size) → (ws table : List ℕ) (n c : ℕ) → ℕ
blocks_by size ws table n c = or_zero (fold_p (block_next size table c) 0 (image_entries (power_of size) n ws))
