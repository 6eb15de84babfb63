-- What is still owed to the key table while the entries of a cleaned chunk leave it and the copies of those that are
-- kept take their places. `es` are the entries before, `mid` those of the chunk, `left` those of them that are still to
-- leave, and `out` the entries of the new image, which knows the chunk no more.
-- Assumes nothing.
use Rattle.std.specs.Prelude.{◌≡◌, ℕ, ◌+◌, ◌-◌, ◌<◌, ◌≤◌, Bool, true, false, ◌⊎◌, List, ◌∷◌, length, ◌≢◌}
use Rattle.std.proofs.Math.Option.{none, some}
use Rattle.spec.specs.declared.Size.{Size}
use Rattle.spec.specs.Basics.{filter}
use Rattle.spec.specs.Log.{Entry, placed}
use Rattle.spec.specs.Contents.{chosen, capacity}
use Rattle.theory_log.specs.Contents.{Mem}
use Rattle.theory_log.proofs.Places.{Rising}
use Rattle.packing.specs.declared.Info.{Info}
use Rattle.index.specs.Index.{get, used, Probed}
use Rattle.packing.specs.Packed.{widths_of, pack_of, unpack_of}
use Rattle.volatile.specs.Known.{entry_count, several, extent_of, info_for, Small, Bounded}
use Rattle.session.specs.Cleaned.{Stand}

-- no key of these entries has several top entries
abbrev pub Singles : (mid es : List Entry) → Type 0
Singles mid es = (e : Entry) → Mem e mid → several e.key es ≡ 0

-- nor has this key, if the chunk has an entry of it
abbrev pub Single : (es mid : List Entry) → ℕ → Type 0
Single es mid k = (several k es ≡ 0) ⊎ ((e : Entry) → Mem e mid → e.key ≢ k)

-- no kept entry of the key is still to leave
abbrev pub NoneKept : (Entry → Bool) → List Entry → ℕ → Type 0
NoneKept test left k = (f : Entry) → Mem f left → test f ≡ true → f.key ≢ k

-- ONE KEY. What the table holds while the entries `left` of the chunk still count, and no kept one is among them
abbrev pub owed : (size : Size) → ℕ → (left out : List Entry) → ℕ
owed size k left out = info_for size (chosen k out) (entry_count k left + entry_count k out) (several k out)

-- of a key that the new image does not know: its word speaks of an entry that is still to leave, a delete
pub record Doomed (size : Size) (k word : ℕ) (left out : List Entry) : Type 0 where
  pub entry : Entry
  pub member : Mem entry left
  pub of-key : entry.key ≡ k
  pub place : (unpack_of size word).place ≡ entry.at
  pub narrow : word < 0x1_0000_0000_0000_0000
  pub delete : entry.op ≡ 1 → ⊥
  pub nowhere : chosen k out ≡ none

abbrev pub Told : (size : Size) → (k word : ℕ) (left out : List Entry) → Type 0
Told size k word left out = (word ≡ owed size k left out) ⊎ Doomed size k word left out

-- of a kept entry that is still to leave: its key's word speaks of it, and counts every entry but its copy
pub record Awaits (size : Size) (word : ℕ) (left out : List Entry) (f : Entry) : Type 0 where
  pub entries : ℕ
  pub says : unpack_of size word ≡ record { extent = extent_of size f.placement f.field; place = f.at; version = f.version; entries = entries; several = 0 }
  pub known : word ≡ 0 → ⊥
  pub narrow : word < 0x1_0000_0000_0000_0000
  pub more : entries + 1 ≡ entry_count f.key left + entry_count f.key out

-- a word with one entry less, and one that speaks of the copy at `place` from now on
abbrev pub fewer : Info → Info
fewer i = record { extent = i.extent; place = i.place; version = i.version; entries = i.entries - 1; several = i.several }

unfoldable pub less_of : (size : Size) → ℕ → ℕ
less_of size word = pack_of size (fewer (unpack_of size word))

abbrev pub turned : Info → ℕ → Info
turned i place = record { extent = i.extent; place = place; version = i.version; entries = i.entries; several = i.several }

unfoldable pub turned_of : (size : Size) → ℕ → ℕ → ℕ
turned_of size word place = pack_of size (turned (unpack_of size word) place)

-- THE ENTRIES LEAVE: table and number of keys, with `left` still to leave, and the copies of the kept ones of them from
-- word `to` on
pub record Leaving (size : Size) (ws : List ℕ) (until : ℕ) (es mid out : List Entry) (test : Entry → Bool) (table : List ℕ) (keys : ℕ) (left : List Entry) (to : ℕ) : Type 0 where
  pub probed : Probed table
  pub stored : used table ≡ keys
  pub fits : keys ≤ capacity (length table)
  pub inside : (e : Entry) → Mem e left → Mem e mid
  pub seen : (e : Entry) → Mem e mid → Mem e left ⊎ (several e.key es ≡ 0)
  pub twins : (e : Entry) → Mem e mid → (several e.key es ≡ 0) ⊎ ((unpack_of size (get table e.key)).several ≢ 0)
  pub told : (k : ℕ) → Single es mid k → NoneKept test left k → Told size k (get table k) left out
  pub awaits : (f : Entry) → Mem f left → test f ≡ true → several f.key es ≡ 0 → Awaits size (get table f.key) left out f
  pub copies : (c : Entry) → Mem c (placed to (filter test left)) → several c.key es ≡ 0 → (chosen c.key out ≡ some c) × (several c.key out ≡ 0)
  pub standing : Stand ws to until (placed to (filter test left))
  pub low : ℕ
  pub high : ℕ
  pub rising : Rising low high left
  pub small : (e : Entry) → Mem e left → Small size e
  pub small-out : Bounded size out
  pub clear : (e f : Entry) → Mem e left → Mem f out → e.at ≢ f.at
  pub few : length left + length out < (widths_of size).entries

-- whether the entry e, which comes next, has a copy, if its key's word speaks of it
pub record Marked (test : Entry → Bool) (copied : Bool) (left : List Entry) (e : Entry) : Type 0 where
  pub by : copied ≡ true → (e.op ≡ 1) ⊎ ((f : Entry) × Mem f (e ∷ left) × (test f ≡ true) × (f.key ≡ e.key))
  pub not : copied ≡ false → test e ≢ true
