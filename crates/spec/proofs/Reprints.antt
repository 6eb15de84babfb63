-- Reprints while a call is unfinished: what look-up answers after every step of a commit and of cleanings, and at the
-- first and the last steps of a staging, computed on small images; each slip that shows a register other than the one
-- before the call, or turns to the new one at another step than the last fence, goes wrong here.
-- Assumes nothing.
use mathlib.Core.Bool.{Bool, true, false}
use mathlib.Core.List.{List, [], ◌∷◌, ◌++◌, map}
use Prim.Native.Nat.{ℕ, zero, suc}
use lib.Dec.{T}
use lib.ListN.{replicate}
use Rattle.spec.specs.Basics.{both, every, same_list}
use Rattle.spec.specs.Places.{base_power, base, first_line, first_unit, chunk_bytes, chunk_words, chunk_lines, chunk_units, chunks_in, unit_chunk, unit_in, word_chunk}
use Rattle.spec.specs.Medium.{Fence}
use Rattle.spec.specs.Directory.{role_of, lines_of, size_of, size_for, is_size}
use Rattle.spec.specs.Log.{Entry, first_of_word, step_of}
use Rattle.spec.specs.Blocks.{block_limit, units_for, block_size}
use Rattle.spec.specs.Contents.{chosen, tops, capacity, kept_in}
use Rattle.spec.specs.Actions.{append_of, commit_of, body_of, padded, block_of}
use Rattle.spec.specs.Reports.{numbers_of, words_after}
use Rattle.spec.specs.Plans.{Committing, Staging, entry, plan_put, plan_delete, plan_commit, plan_clean, slot_for, log_place, chosen_chunk, look_up}
use Rattle.spec.specs.Machine.{Call, Put, Delete, Commit, Abandon, LookUp, Choose, Clean, Step, State, Rest, Busy, Formatting, answer, next}
use Rattle.std.specs.declared.option.Option.TheVariants as G
use Rattle.spec.specs.declared.Report.{Report}
use Rattle.spec.proofs.Slips.{image, line}

-- five chunks, a table of 64 words
abbrev bytes : ℕ
bytes = 20480

abbrev ask : Call → State → List ℕ → Report
ask k σ ws = answer k σ ws bytes 64

abbrev leaves : Call → State → List ℕ → State
leaves k σ ws = next k σ ws bytes 64

-- what look-up answers of keys 7 and 9: start, length and version, or a refusal's number
abbrev shown : State → List ℕ → List ℕ
shown σ ws = numbers_of (ask (LookUp 7) σ ws) ++ numbers_of (ask (LookUp 9) σ ws)

-- that is the first list now and after each of so many steps, and the second one after the next step and the one that
-- reports the end
abbrev turns : ℕ → (before after : List ℕ) → State → List ℕ → Bool
turns zero before after σ ws =
    both (same_list (shown σ ws) before)
    (both (same_list (shown (leaves Step σ ws) (words_after (ask Step σ ws) ws)) after)
    (same_list (shown (leaves Step (leaves Step σ ws) (words_after (ask Step σ ws) ws)) (words_after (ask Step σ ws) ws)) after))
turns (suc n) before after σ ws = both (same_list (shown σ ws) before) (turns n before after (leaves Step σ ws) (words_after (ask Step σ ws) ws))

-- a call that is begun with so many actions and one more
abbrev begins : Call → List Entry → List ℕ → ℕ → Bool
begins k items ws n = same_list (numbers_of (ask k (Rest base_power bytes 64 items) ws)) (suc n ∷ [])

abbrev reprints : Call → List Entry → List ℕ → ℕ → (before after : List ℕ) → Bool
reprints k items ws n before after = both (begins k items ws n) (turns n before after (leaves k (Rest base_power bytes 64 items) ws) ws)

-- so many steps on
abbrev later : ℕ → (State → List ℕ → Bool) → State → List ℕ → Bool
later zero f σ ws = f σ ws
later (suc n) f σ ws = later n f (leaves Step σ ws) (words_after (ask Step σ ws) ws)

-- put 7 of a byte and put 9 of no byte, in chunk 1; in chunk 2; and in chunk 1, and printed anew in chunk 2
abbrev one : List ℕ
one = image 257 0 line (replicate 8 3)

abbrev second : List ℕ
second = image 0 257 (replicate 8 3) line

abbrev two : List ℕ
two = image 257 257 line (16777249 ∷ 7 ∷ 105 ∷ 33 ∷ 9 ∷ 0 ∷ 0 ∷ 0 ∷ [])

abbrev in_one : List ℕ
in_one = 4112 ∷ 1 ∷ 1 ∷ 4136 ∷ 0 ∷ 1 ∷ []

abbrev in_two : List ℕ
in_two = 8208 ∷ 1 ∷ 2 ∷ 8232 ∷ 0 ∷ 2 ∷ []

-- a delete of 7 and a put of 9 of a byte
abbrev items : List Entry
items = entry 2 0 2 0 7 [] ∷ entry 1 0 2 1 9 (33 ∷ []) ∷ []

abbrev walks : List Bool
walks =
    -- a commit of one line, behind the one of chunk 1: 13 actions
    reprints Commit items one 12 in_one (11 ∷ 4192 ∷ 1 ∷ 2 ∷ [])
    -- a cleaning of chunk 1, whose entries are copied to chunk 2: 16 actions, and the old places up to the last
    ∷ reprints (Clean 1) [] one 15 in_one (8208 ∷ 1 ∷ 1 ∷ 8232 ∷ 0 ∷ 1 ∷ [])
    -- one of chunk 2, whose entries are copied to chunk 1, where they would be found first
    ∷ reprints (Clean 2) [] second 15 (8208 ∷ 1 ∷ 1 ∷ 8232 ∷ 0 ∷ 1 ∷ []) in_one
    -- one of which nothing is kept
    ∷ reprints (Clean 1) [] two 2 in_two in_two
    ∷ []

pub walked : T (every walks)
unfolding base first_line first_unit chunk_bytes chunk_words chunk_lines chunk_units chunks_in unit_chunk unit_in word_chunk role_of lines_of size_of size_for is_size first_of_word step_of block_limit units_for block_size chosen tops capacity kept_in append_of commit_of body_of padded block_of plan_put plan_delete plan_commit plan_clean slot_for log_place chosen_chunk look_up next
walked = tt

-- a staging of a value in a block: a free chunk is taken by two actions, 34 words are stored and five lines flushed
abbrev large : Call
large = Put G.None 7 (replicate 257 94)

abbrev staging : List Bool
staging =
    begins large [] one 40
    ∷ later 1 (turns 2 in_one in_one) (leaves large (Rest base_power bytes 64 []) one) one
    ∷ later 38 (turns 2 in_one in_one) (leaves large (Rest base_power bytes 64 []) one) one
    ∷ []

pub staged : T (every staging)
unfolding base first_line first_unit chunk_bytes chunk_words chunk_lines chunk_units chunks_in unit_chunk unit_in word_chunk role_of lines_of size_of size_for is_size first_of_word step_of block_limit units_for block_size chosen tops capacity kept_in append_of commit_of body_of padded block_of plan_put plan_delete plan_commit plan_clean slot_for log_place chosen_chunk look_up next
staged = tt

-- the refusal's number
abbrev told : Call → State → ℕ → ℕ → List ℕ
told k σ b t = numbers_of (answer k σ one b t)

abbrev committing : State
committing = Busy base_power bytes 64 items (Committing ((1, 257) ∷ [])) (Fence ∷ [])

abbrev rows : List Bool
rows =
    -- a staging without actions, before its end
    same_list (shown (Busy base_power bytes 64 items Staging []) one) in_one
    -- 1 before all else; in a formatting of an open register 8, and 2 where none was open
    ∷ same_list (told (LookUp 7) committing 16384 64) (1 ∷ [])
    ∷ same_list (told (LookUp 7) committing bytes 63) (1 ∷ [])
    ∷ same_list (told (LookUp 7) (Formatting true bytes 64 []) bytes 64) (8 ∷ [])
    ∷ same_list (told (LookUp 7) (Formatting true bytes 64 (Fence ∷ [])) bytes 64) (8 ∷ [])
    ∷ same_list (told (LookUp 7) (Formatting true bytes 64 []) bytes 63) (1 ∷ [])
    ∷ same_list (told (LookUp 7) (Formatting true bytes 64 []) 16384 64) (1 ∷ [])
    ∷ same_list (told (LookUp 7) (Formatting false bytes 64 []) bytes 64) (2 ∷ [])
    ∷ same_list (told (LookUp 7) (Formatting false bytes 64 []) bytes 63) (2 ∷ [])
    -- every other call is refused with 8: a commit in a commit
    ∷ every (map (λ k. same_list (told k committing bytes 64) (8 ∷ [])) (Commit ∷ Put G.None 7 [] ∷ Delete G.None 7 ∷ Abandon ∷ Choose ∷ Clean 1 ∷ []))
    ∷ []

pub answered : T (every rows)
unfolding base first_line first_unit chunk_bytes chunk_words chunk_lines chunk_units chunks_in unit_chunk unit_in word_chunk role_of lines_of size_of size_for is_size first_of_word step_of block_limit units_for block_size chosen tops capacity kept_in append_of commit_of body_of padded block_of plan_put plan_delete plan_commit plan_clean slot_for log_place chosen_chunk look_up next
answered = tt
