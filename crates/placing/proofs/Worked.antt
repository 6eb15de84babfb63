-- Worked cases of the slot, computed: four chunks; what the must-fail edits of the search would answer differs in each.
-- Assumes nothing.
use mathlib.Core.Path.{◌≡◌, refl}
use mathlib.Core.List.{List, [], ◌∷◌}
use Prim.Native.Nat.{ℕ}
use lib.ListN.{set, replicate}
use Rattle.spec.specs.Places.{chunk_units, chunk_lines, first_unit}
use Rattle.spec.specs.Directory.{size_for, is_size, role_of, size_of}
use Rattle.spec.specs.Log.{Entry}
use Rattle.spec.specs.Plans.{entry, InData, InFree, Nowhere, slot_for}

-- the first words of an image whose chunk 1 has this directory word, with the other chunks free
abbrev words : ℕ → List ℕ
words w = set (replicate 12 0) 9 w

-- a put of key 7 in the block at unit 16; a delete of that key behind it; a staged put of key 9 in the block at unit 18
abbrev live : List Entry
live = entry 1 1 1 16 7 [] ∷ []

abbrev superseded : List Entry
superseded = entry 1 1 1 16 7 [] ∷ entry 2 0 2 0 7 [] ∷ []

abbrev staged : List Entry
staged = entry 1 1 1 18 9 [] ∷ []

-- three chunks free: the first is taken
free-taken : slot_for 12 4 (words 0) [] [] 2 ≡ InFree 1
unfolding slot_for size_of role_of is_size size_for chunk_units chunk_lines first_unit
free-taken = refl

-- a data chunk of blocks of two units: its lowest block that is neither live nor staged
lowest : slot_for 12 4 (words 514) [] [] 2 ≡ InData 16
unfolding slot_for size_of role_of is_size size_for chunk_units chunk_lines first_unit
lowest = refl

behind-live : slot_for 12 4 (words 514) live [] 2 ≡ InData 18
unfolding slot_for size_of role_of is_size size_for chunk_units chunk_lines first_unit
behind-live = refl

behind-staged : slot_for 12 4 (words 514) live staged 2 ≡ InData 20
unfolding slot_for size_of role_of is_size size_for chunk_units chunk_lines first_unit
behind-staged = refl

again : slot_for 12 4 (words 514) superseded staged 2 ≡ InData 16
unfolding slot_for size_of role_of is_size size_for chunk_units chunk_lines first_unit
again = refl

-- no data chunk of blocks of three units, and only two chunks free
nowhere : slot_for 12 4 (words 514) live staged 3 ≡ Nowhere
unfolding slot_for size_of role_of is_size size_for chunk_units chunk_lines first_unit
nowhere = refl

-- large chunks: a data chunk of blocks of 51 units, which begins at unit 256
large-lowest : slot_for 16 4 (words 13058) [] [] 51 ≡ InData 256
unfolding slot_for size_of role_of is_size size_for chunk_units chunk_lines first_unit
large-lowest = refl

large-behind : slot_for 16 4 (words 13058) (entry 1 1 1 256 7 [] ∷ []) [] 51 ≡ InData 307
unfolding slot_for size_of role_of is_size size_for chunk_units chunk_lines first_unit
large-behind = refl
