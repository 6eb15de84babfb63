-- The counts of the rules: the actions of each call that writes, the sizes of blocks, the keys of a table.
-- Assumes nothing.
use mathlib.Core.Bool.{Bool}
use mathlib.Core.List.{List, [], ◌∷◌, ◌++◌, map}
use Prim.Native.Nat.{ℕ, suc, ◌+◌, ◌-◌, ◌*◌, ◌/◌}
use lib.Dec.{T, eqb}
use lib.ListN.{length, replicate}
use Rattle.spec.specs.Basics.{both, all, filter, up_from, distinct, same_list}
use Rattle.spec.specs.Places.{base_power, large_power, base, first_line, first_unit, chunk_words, chunk_lines, chunk_units, line_of}
use Rattle.spec.specs.Words.{packed}
use Rattle.spec.specs.Medium.{Action, Store, Flush, Fence}
use Rattle.spec.specs.Header.{header_tail, power_bit, power_field}
use Rattle.spec.specs.Directory.{is_size, size_for, size_of, role_of}
use Rattle.spec.specs.Blocks.{block_limit, block_size, units_for}
use Rattle.spec.specs.Contents.{capacity, tops, chosen}
use Rattle.spec.specs.Actions.{format_of, blank_of, fill_of, append_of, commit_of, body_of, padded, free_of, block_of}
use Rattle.spec.specs.Plans.{Plan, Refuse, Begin, plan_put, slot_for}
use Rattle.std.specs.declared.option.Option.TheVariants as G
use Rattle.examples.specs.Shown.{Shown, Words, Row, ◌is◌, all_hold}

-- the words stored, the lines flushed and the number of fences
abbrev stored : List Action → List ℕ
stored [] = []
stored (Store w v ∷ rest) = w ∷ stored rest
stored (Flush l ∷ rest) = stored rest
stored (Fence ∷ rest) = stored rest

abbrev flushed : List Action → List ℕ
flushed [] = []
flushed (Store w v ∷ rest) = flushed rest
flushed (Flush l ∷ rest) = l ∷ flushed rest
flushed (Fence ∷ rest) = flushed rest

abbrev fences : List Action → ℕ
fences [] = 0
fences (Store w v ∷ rest) = fences rest
fences (Flush l ∷ rest) = fences rest
fences (Fence ∷ rest) = suc (fences rest)

-- stores, flushes, fences, and all actions
abbrev counted : List Action → Shown
counted acts = Words (length (stored acts) ∷ length (flushed acts) ∷ fences acts ∷ length acts ∷ [])

-- the lines flushed are those stored to, by rising address
abbrev flushes_its_lines : List Action → Bool
flushes_its_lines acts = same_list (flushed acts) (distinct (map line_of (stored acts)))

-- a batch of so many words goes behind three lines of chunk 1
abbrev commit : ℕ → List Action
commit words = append_of base_power 1 769 3 (replicate words 17)

-- b lines: 9b + 4 actions, for a batch that fills them and for one with a single word in the last
abbrev commit_counts : ℕ → Bool
commit_counts b = both (eqb (length (commit (8 * b))) (9 * b + 4)) (eqb (length (commit (8 * b - 7))) (9 * b + 4))

-- staging of so many bytes on an empty register of four chunks
abbrev actions_of : Plan → List Action
actions_of (Refuse n) = []
actions_of (Begin items task acts) = acts

abbrev empty : List ℕ
empty = 1 ∷ blank_of (header_tail base_power 4 G.None G.None)

abbrev staging : ℕ → List Action
staging bytes = actions_of (plan_put base_power 4 empty 64 [] [] G.None 7 (replicate bytes 94))

-- the stores and flushes of a block alone, at unit 50
abbrev block : ℕ → List Action
block bytes = block_of 50 (bytes ∷ packed (replicate bytes 94))

abbrev staging_counts : ℕ → Bool
staging_counts bytes = both (eqb (length (stored (block bytes))) (1 + (bytes + 7) / 8)) (flushes_its_lines (block bytes))

abbrev rows : List Row
rows =
    -- format: 3, then 511 + 64 + 1, then 3
    counted (format_of base_power 4 G.None G.None) is Words (513 ∷ 66 ∷ 3 ∷ 582 ∷ [])
    ∷ counted (format_of base_power 504 (G.Some 5) (G.Some 6)) is Words (513 ∷ 66 ∷ 3 ∷ 582 ∷ [])
    ∷ Words (stored (format_of base_power 4 G.None G.None)) is Words ((0 ∷ up_from 1 511) ++ (0 ∷ []))
    ∷ Words (flushed (format_of base_power 4 G.None G.None)) is Words ((0 ∷ up_from 0 64) ++ (0 ∷ []))
    -- commit of one line behind three lines of chunk 1
    ∷ counted (commit 5) is Words (9 ∷ 2 ∷ 2 ∷ 13 ∷ [])
    ∷ Words (stored (commit 5)) is Words (536 ∷ 537 ∷ 538 ∷ 539 ∷ 540 ∷ 541 ∷ 542 ∷ 543 ∷ 9 ∷ [])
    ∷ Words (flushed (commit 5)) is Words (67 ∷ 1 ∷ [])
    -- freeing
    ∷ counted (free_of 1 513) is Words (1 ∷ 1 ∷ 1 ∷ 3 ∷ [])
    -- staging of values in the log, and in a free chunk: its directory word, the length and 33, 33, 34, 63, 64, 511
    -- words
    ∷ counted (staging 256) is Words (0 ∷ 0 ∷ 0 ∷ 0 ∷ [])
    ∷ counted (staging 257) is Words (35 ∷ 6 ∷ 0 ∷ 41 ∷ [])
    ∷ counted (staging 264) is Words (35 ∷ 6 ∷ 0 ∷ 41 ∷ [])
    ∷ counted (staging 265) is Words (36 ∷ 6 ∷ 0 ∷ 42 ∷ [])
    ∷ counted (staging 504) is Words (65 ∷ 9 ∷ 0 ∷ 74 ∷ [])
    ∷ counted (staging 505) is Words (66 ∷ 10 ∷ 0 ∷ 76 ∷ [])
    ∷ counted (staging 4088) is Words (513 ∷ 65 ∷ 0 ∷ 578 ∷ [])
    -- block sizes, blocks in a chunk, and the size for 2 to 16 units
    ∷ Words (filter (is_size base_power) (up_from 0 300)) is Words (2 ∷ 3 ∷ 4 ∷ 5 ∷ 8 ∷ 16 ∷ [])
    ∷ Words (map (λ s. chunk_units base_power / s) (2 ∷ 3 ∷ 4 ∷ 5 ∷ 8 ∷ 16 ∷ [])) is Words (8 ∷ 5 ∷ 4 ∷ 3 ∷ 2 ∷ 1 ∷ [])
    ∷ Words (map (size_for large_power) (20 ∷ 22 ∷ 43 ∷ 52 ∷ 65 ∷ 86 ∷ 129 ∷ 256 ∷ [])) is Words (21 ∷ 23 ∷ 51 ∷ 64 ∷ 85 ∷ 128 ∷ 256 ∷ 256 ∷ [])
    ∷ Words (map (size_for base_power) (up_from 2 15)) is Words (2 ∷ 3 ∷ 4 ∷ 5 ∷ 8 ∷ 8 ∷ 8 ∷ 16 ∷ 16 ∷ 16 ∷ 16 ∷ 16 ∷ 16 ∷ 16 ∷ 16 ∷ [])
    -- the keys that a table holds
    ∷ Words (map capacity (3 ∷ 4 ∷ 7 ∷ 8192 ∷ 262143 ∷ 262144 ∷ 262148 ∷ [])) is Words (0 ∷ 1 ∷ 1 ∷ 2048 ∷ 65535 ∷ 65536 ∷ 65536 ∷ [])
    ∷ []

pub computed : T (both (all_hold rows) (both (all commit_counts (up_from 1 61)) (all staging_counts (257 ∷ 264 ∷ 265 ∷ 504 ∷ 505 ∷ 4081 ∷ 4088 ∷ []))))
unfolding base first_line first_unit chunk_words chunk_lines chunk_units header_tail is_size size_for size_of role_of block_limit block_size units_for capacity tops chosen format_of blank_of fill_of append_of commit_of body_of padded block_of plan_put slot_for power_bit power_field
computed = tt
