-- The chunk power: which power a header says, what an opening and a formatting take, and the numbers that go by it.
-- Assumes nothing.
use mathlib.Core.Bool.{Bool}
use mathlib.Core.List.{List, [], ◌∷◌, ◌++◌, map}
use Prim.Native.Nat.{ℕ, ◌+◌, ◌*◌}
use lib.Dec.{T, eqb}
use lib.ListN.{replicate}
use Rattle.spec.specs.Basics.{every, same_list}
use Rattle.spec.specs.Places.{base_power, large_power, base, chunk_bytes, chunk_words, chunk_lines, chunk_units, chunks_in, length_allowed, size_allowed, any_allowed, unit_chunk, unit_in}
use Rattle.spec.specs.Header.{header_test, fields_test, power_said, header_power, power_bit, power_field, header_tail, header_words, check_word, sum}
use Rattle.spec.specs.Directory.{role_of, lines_of, size_of, size_for, is_size, directory_right}
use Rattle.spec.specs.Log.{first_of_word, step_of}
use Rattle.spec.specs.Blocks.{block_limit, units_for, block_size, block_test}
use Rattle.spec.specs.Contents.{chosen, tops, capacity}
use Rattle.spec.specs.Opening.{Opening, Refused, Accepted, opening}
use Rattle.spec.specs.Actions.{format_of, fill_of, blank_of}
use Rattle.spec.specs.Plans.{Plan, Refuse, Begin, plan_put, slot_for}
use Rattle.spec.specs.Machine.{Open, Closed, state_power, format_answer, change}
use Rattle.spec.specs.Reports.{number}
use Rattle.std.specs.declared.option.Option.TheVariants as G
use Rattle.spec.specs.declared.Report.{Report}
use Rattle.spec.specs.declared.Report.TheVariants as R

-- the refusal's number, 0 where the image is accepted
abbrev told : Opening → ℕ
told (Refused n) = number n
told (Accepted es) = 0

-- a header with this map and these six words behind it
abbrev header : ℕ → List ℕ → List ℕ
header map fields = map ∷ (fields ++ (check_word (map + sum fields) ∷ []))

-- n chunks, and the power x as the only other field
abbrev with_power : ℕ → ℕ → List ℕ
with_power n x = header 9 (n ∷ x ∷ 0 ∷ 0 ∷ 0 ∷ 0 ∷ [])

abbrev opens : ℕ → List ℕ → ℕ
opens bytes ws = told (opening bytes ws 64)

-- the power that an opening leaves in the state
abbrev keeps : ℕ → List ℕ → ℕ
keeps bytes ws = state_power (change Open Closed ws bytes 64)

abbrev headers : List Bool
headers =
    -- 12 and 16 and no other, each with 4 chunks of that size: 13, 14, 15, 11, 17, 0
    eqb (opens 16384 (with_power 4 12)) 0
    ∷ eqb (opens 262144 (with_power 4 16)) 0
    ∷ same_list (map (λ p. opens (4 * chunk_bytes p) (with_power 4 p)) (13 ∷ 14 ∷ 15 ∷ [])) (2 ∷ 2 ∷ 2 ∷ [])
    ∷ same_list (map (λ p. opens 16384 (with_power 4 p)) (0 ∷ 11 ∷ 13 ∷ 16 ∷ 17 ∷ [])) (2 ∷ 2 ∷ 2 ∷ 2 ∷ 2 ∷ [])
    -- the power's field is the last one that the map has
    ∷ same_list (map header_power (header 11 (4 ∷ 5 ∷ 16 ∷ 0 ∷ 0 ∷ 0 ∷ []) ∷ header 13 (4 ∷ 6 ∷ 16 ∷ 0 ∷ 0 ∷ 0 ∷ []) ∷ header 15 (4 ∷ 5 ∷ 6 ∷ 16 ∷ 0 ∷ 0 ∷ []) ∷ [])) (16 ∷ 16 ∷ 16 ∷ [])
    -- absent it is 12, whatever the other fields hold
    ∷ same_list (map header_power (header 1 (4 ∷ 16 ∷ 0 ∷ 0 ∷ 0 ∷ 0 ∷ []) ∷ header 3 (4 ∷ 16 ∷ 0 ∷ 0 ∷ 0 ∷ 0 ∷ []) ∷ header 7 (4 ∷ 5 ∷ 16 ∷ 0 ∷ 0 ∷ 0 ∷ []) ∷ [])) (12 ∷ 12 ∷ 12 ∷ [])
    -- 1 is said of the length alone; 2 where it is not that of the header's count of its chunks, or these are 3 or 608
    ∷ same_list (opens 16392 (with_power 4 12) ∷ opens 12288 (with_power 3 12) ∷ opens 33095680 (with_power 505 16) ∷ []) (1 ∷ 1 ∷ 1 ∷ [])
    ∷ same_list (opens 262144 (with_power 64 16) ∷ opens 262144 (with_power 4 12) ∷ opens 196608 (with_power 3 16) ∷ opens 2490368 (with_power 608 12) ∷ []) (2 ∷ 2 ∷ 2 ∷ 2 ∷ [])
    ∷ same_list (opens 262144 (with_power 64 12) ∷ opens 196608 (with_power 48 12) ∷ opens 2490368 (with_power 38 16) ∷ []) (0 ∷ 0 ∷ 0 ∷ [])
    -- what a formatting writes says the power, and the opening keeps it
    ∷ same_list (header_words base_power 4 G.None G.None) (header 1 (4 ∷ 0 ∷ 0 ∷ 0 ∷ 0 ∷ 0 ∷ []))
    ∷ same_list (header_words large_power 4 G.None G.None) (with_power 4 16)
    ∷ same_list (header_words large_power 4 (G.Some 5) G.None) (header 11 (4 ∷ 5 ∷ 16 ∷ 0 ∷ 0 ∷ 0 ∷ []))
    ∷ same_list (header_words large_power 4 G.None (G.Some 6)) (header 13 (4 ∷ 6 ∷ 16 ∷ 0 ∷ 0 ∷ 0 ∷ []))
    ∷ same_list (header_words large_power 4 (G.Some 5) (G.Some 6)) (header 15 (4 ∷ 5 ∷ 6 ∷ 16 ∷ 0 ∷ 0 ∷ []))
    ∷ same_list (keeps 262144 (with_power 64 12) ∷ keeps 262144 (with_power 4 16) ∷ []) (12 ∷ 16 ∷ [])
    ∷ []

pub headers-computed : T (every headers)
unfolding base chunk_bytes chunk_words chunk_lines chunk_units chunks_in length_allowed size_allowed any_allowed unit_chunk unit_in header_test fields_test power_said power_bit power_field header_tail header_words role_of lines_of size_of size_for is_size directory_right first_of_word step_of block_test chosen tops capacity opening
headers-computed = tt

-- the refusal's number, or how many actions a formatting has
abbrev begun : Report → ℕ
begun (R.Refused n) = number n
begun (R.Begun a) = a
begun (R.Store w v) = 0
begun (R.Flush l) = 0
begun R.Fence = 0
begun (R.End n) = 0
begun R.Idle = 0
begun R.Opened = 0
begun R.Abandoned = 0
begun (R.Chosen c) = 0
begun (R.Part a n v) = 0

abbrev formats : ℕ → ℕ → ℕ
formats p bytes = begun (format_answer p G.None G.None Closed bytes)

abbrev plan_told : Plan → ℕ
plan_told (Refuse n) = number n
plan_told (Begin items task acts) = 0

-- a put of so many bytes into an image of four free chunks: the refusal's number, 0 where it begins
abbrev stages : ℕ → ℕ → ℕ
stages p bytes = plan_told (plan_put p 4 [] 64 [] [] G.None 7 (replicate bytes 94))

abbrev numbers : List Bool
numbers =
    -- 1: another power, or a length not allowed for the one that is told
    same_list (map (λ p. formats p (4 * chunk_bytes p)) (11 ∷ 12 ∷ 13 ∷ 14 ∷ 15 ∷ 16 ∷ 17 ∷ [])) (1 ∷ 582 ∷ 1 ∷ 1 ∷ 1 ∷ 582 ∷ 1 ∷ [])
    ∷ same_list (formats 16 16384 ∷ formats 16 196608 ∷ formats 12 196608 ∷ formats 12 2490368 ∷ formats 16 2490368 ∷ []) (1 ∷ 1 ∷ 582 ∷ 1 ∷ 582 ∷ [])
    -- the numbers of a chunk, and the largest value
    ∷ same_list (chunk_bytes 16 ∷ chunk_words 16 ∷ chunk_lines 16 ∷ chunk_units 16 ∷ block_limit 16 ∷ []) (65536 ∷ 8192 ∷ 1024 ∷ 256 ∷ 65528 ∷ [])
    ∷ same_list (chunk_bytes 12 ∷ chunk_words 12 ∷ chunk_lines 12 ∷ chunk_units 12 ∷ block_limit 12 ∷ []) (4096 ∷ 512 ∷ 64 ∷ 16 ∷ 4088 ∷ [])
    -- 9 goes by the power
    ∷ same_list (stages 12 4088 ∷ stages 12 4089 ∷ stages 16 4089 ∷ []) (0 ∷ 9 ∷ 0 ∷ [])
    -- block sizes of large chunks
    ∷ same_list (map (size_for 16) (2 ∷ 20 ∷ 21 ∷ 22 ∷ 43 ∷ 52 ∷ 65 ∷ 86 ∷ 129 ∷ 256 ∷ [])) (2 ∷ 21 ∷ 21 ∷ 23 ∷ 51 ∷ 64 ∷ 85 ∷ 128 ∷ 256 ∷ 256 ∷ [])
    ∷ same_list (map (size_for 12) (2 ∷ 3 ∷ 4 ∷ 5 ∷ 6 ∷ 8 ∷ 9 ∷ 16 ∷ [])) (2 ∷ 3 ∷ 4 ∷ 5 ∷ 8 ∷ 8 ∷ 16 ∷ 16 ∷ [])
    ∷ []

pub numbers-computed : T (every numbers)
unfolding base chunk_bytes chunk_words chunk_lines chunk_units chunks_in length_allowed size_allowed any_allowed power_bit power_field header_tail size_for block_limit units_for block_size tops chosen capacity role_of lines_of size_of is_size format_of fill_of blank_of plan_put slot_for
numbers-computed = tt
