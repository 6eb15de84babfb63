-- The key table of an image: what it holds of each key, and what holds of it while one pass over the entries fills it.
-- Assumes nothing.
use Rattle.std.specs.Prelude.{◌≡◌, ℕ, ◌+◌, ◌-◌, ◌<◌, ◌≤◌, Bool, true, false, List, length, ◌==◌, nat_eq, nat_le, nat_lt}
use Rattle.std.proofs.Math.Option.{Option, none, some}
use Rattle.spec.specs.Basics.{pick, filter}
use Rattle.spec.specs.Log.{Entry}
use Rattle.spec.specs.Contents.{tops, chosen, keys_of, capacity}
use Rattle.theory_log.specs.Contents.{Mem}
use Rattle.spec.specs.declared.Size.{Size}
use Rattle.spec.specs.declared.Size.TheVariants as S
use Rattle.packing.specs.declared.Info.{Info}
use Rattle.index.specs.Index.{get, used, Probed}
use Rattle.packing.specs.Packed.{widths_of, pack_of, unpack_of}

-- how many entries a key has, and 1 if several of them are top entries
abbrev pub entry_count : ℕ → List Entry → ℕ
entry_count k es = length (filter (λ (e : Entry). nat_eq e.key k) es)

abbrev pub several : ℕ → List Entry → ℕ
several k es = pick (nat_le 2 (length (tops k es))) 1 0

-- one less than the bytes of a value in the log that is longer than a byte; 0 for every other entry, and in large
-- chunks for all: it must be read itself
abbrev pub extent_of : Size → (placement field : ℕ) → ℕ
extent_of S.Small placement field = pick (placement == 0) (field - 1) 0
extent_of S.Large placement field = 0

-- what the table holds of a key: its chosen entry's extent, place and version, and those two; nothing of a key that is
-- not known
abbrev pub info_for : (size : Size) → Option Entry → ℕ → ℕ → ℕ
info_for size none entries twins = 0
info_for size (some e) entries twins = pack_of size (record { extent = extent_of size e.placement e.field; place = e.at; version = e.version; entries = entries; several = twins })

unfoldable pub info_of : (size : Size) → ℕ → List Entry → ℕ
info_of size k es = info_for size (chosen k es) (entry_count k es) (several k es)

-- what it holds of a key with this entry alone
unfoldable pub alone : (size : Size) → (extent place version : ℕ) → ℕ
alone size extent place version = pack_of size (record { extent = extent; place = place; version = version; entries = 1; several = 0 })

abbrev pub own_of : (size : Size) → Entry → ℕ
own_of size e = alone size (extent_of size e.placement e.field) e.at e.version

-- one more entry of the key, of which j speaks, behind those of which i speaks
abbrev pub raised : Info → Info → Info
raised i j =
    pick (nat_lt i.version j.version)
    (record { extent = j.extent; place = j.place; version = j.version; entries = i.entries + 1; several = 0 })
    (record { extent = i.extent; place = i.place; version = i.version; entries = i.entries + 1; several = pick (i.version == j.version) 1 i.several })

unfoldable pub noted : (size : Size) → (word own : ℕ) → ℕ
noted size word own = pick (word == 0) own (pack_of size (raised (unpack_of size word) (unpack_of size own)))

-- the entries' numbers fit their parts of the packed word
pub record Small (size : Size) (e : Entry) : Type 0 where
  pub extent-high : extent_of size e.placement e.field < (widths_of size).extent
  pub place-low : 1 ≤ e.at
  pub place-high : e.at < (widths_of size).place
  pub version_low : 1 ≤ e.version
  pub version-high : e.version < (widths_of size).version

pub record Bounded (size : Size) (es : List Entry) : Type 0 where
  pub each : (e : Entry) → Mem e es → Small size e
  pub few : length es < (widths_of size).entries

-- the table, with so many keys, is that of the entries
pub record Indexed (size : Size) (table : List ℕ) (keys : ℕ) (es : List Entry) : Type 0 where
  pub probed : Probed table
  pub info : (k : ℕ) → get table k ≡ info_of size k es
  pub count : keys ≡ length (keys_of es)
  pub stored : used table ≡ keys
  pub fits : keys ≤ capacity (length table)

-- a table of so many words after the entries xs: theirs while `fits`; else they have more keys than it may hold
pub record FillInv (size : Size) (words : ℕ) (xs : List Entry) (table : List ℕ) (keys : ℕ) (fits : Bool) : Type 0 where
  pub sized : length table ≡ words
  pub probed : Probed table
  pub stored : used table ≡ keys
  pub room : keys ≤ capacity words
  pub whole : fits ≡ true → ((k : ℕ) → get table k ≡ info_of size k xs) × (keys ≡ length (keys_of xs))
  pub over : fits ≡ false → capacity words < length (keys_of xs)
