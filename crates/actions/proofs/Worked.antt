-- Worked cases of the actions, computed: how many there are for values of 257 and 4,088 bytes, and where they lie.
-- Assumes nothing.
use mathlib.Core.Path.{◌≡◌, refl}
use mathlib.Core.List.{List, [], ◌∷◌}
use Prim.Native.Nat.{ℕ}
use lib.ListN.{length, set, replicate}
use Rattle.spec.specs.Places.{chunk_units, first_unit, unit_in}
use Rattle.spec.specs.Medium.{Store, Flush, Fence}
use Rattle.spec.specs.Blocks.{block_limit}
use Rattle.spec.specs.Actions.{block_of}
use Rattle.buffer.specs.Areas.{second_start, buffer_words}
use Rattle.session.specs.declared.Setup.{Setup}
use Rattle.actions.specs.Nth.{nth}
use Rattle.session.specs.State.{held_words, unit_of, block_actions, no_source}

abbrev setup : ℕ → ℕ → ℕ → ℕ → Setup
setup power chunk place size =
    record { image = 16384; table = 64; power = power; chunk = chunk; old = 0; lines = place; first = 1; least = 1; fields = size; station = 0; centre = 0; source = no_source }

abbrev buffer : ℕ → List ℕ
buffer bytes = set (replicate buffer_words 0) second_start bytes

-- 1 + 33 stores and 5 flushes in chunk 3; the directory word of chunk 1 and its line before
data-count : length (block_actions (setup 12 3 2 0) (buffer 257)) ≡ 39
unfolding block_actions held_words unit_of block_of first_unit chunk_units block_limit
data-count = refl

free-count : length (block_actions (setup 12 1 0 2) (buffer 257)) ≡ 41
unfolding block_actions held_words unit_of block_of first_unit chunk_units block_limit
free-count = refl

whole-count : length (block_actions (setup 12 1 0 16) (buffer 4088)) ≡ 578
unfolding block_actions held_words unit_of block_of first_unit chunk_units block_limit
whole-count = refl

-- the same in large chunks, and the largest value there: 1 + 8,191 stores, 1,024 flushes
large-count : length (block_actions (setup 16 3 2 0) (buffer 257)) ≡ 39
unfolding block_actions held_words unit_of block_of first_unit chunk_units block_limit
large-count = refl

large-whole : length (block_actions (setup 16 1 0 256) (buffer 65528)) ≡ 9218
unfolding block_actions held_words unit_of block_of first_unit chunk_units block_limit
large-whole = refl

large-acts : nth (block_actions (setup 16 1 0 256) (buffer 65528)) 0 ∷ nth (block_actions (setup 16 1 0 256) (buffer 65528)) 2
    ∷ nth (block_actions (setup 16 1 17 2) (buffer 257)) 2 ∷ nth (block_actions (setup 16 3 2 0) (buffer 257)) 34 ∷ []
    ≡ Store 9 65538 ∷ Store 8192 65528 ∷ Store 8736 257 ∷ Flush 3080 ∷ []
unfolding block_actions held_words unit_of block_of first_unit unit_in chunk_units block_limit
large-acts = refl

free-acts : nth (block_actions (setup 12 1 0 2) (buffer 257)) 0 ∷ nth (block_actions (setup 12 1 0 2) (buffer 257)) 1 ∷ nth (block_actions (setup 12 1 0 2) (buffer 257)) 2
    ∷ nth (block_actions (setup 12 1 0 2) (buffer 257)) 35 ∷ nth (block_actions (setup 12 1 0 2) (buffer 257)) 36 ∷ nth (block_actions (setup 12 1 0 2) (buffer 257)) 40 ∷ nth (block_actions (setup 12 1 0 2) (buffer 257)) 41 ∷ []
    ≡ Store 9 514 ∷ Flush 1 ∷ Store 512 257 ∷ Store 545 0 ∷ Flush 64 ∷ Flush 68 ∷ Fence ∷ []
unfolding block_actions held_words unit_of block_of first_unit unit_in chunk_units block_limit
free-acts = refl
