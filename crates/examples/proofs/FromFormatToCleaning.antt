-- The rules' last worked case, from formatting to cleaning, computed call by call and step by step.
-- Assumes nothing.
use mathlib.Core.List.{List, [], ◌∷◌}
use Prim.Native.Nat.{ℕ}
use lib.Dec.{T}
use lib.ListN.{replicate}
use Rattle.spec.specs.Places.{base, first_line, word_chunk, chunk_bytes, chunk_words, chunk_lines, chunk_units, chunks_in, length_allowed, size_allowed, any_allowed}
use Rattle.spec.specs.Header.{header_tail, header_test, fields_test, power_said, power_bit, power_field}
use Rattle.spec.specs.Directory.{role_of, lines_of, is_size, directory_right}
use Rattle.spec.specs.Log.{first_of_word, step_of}
use Rattle.spec.specs.Blocks.{block_limit}
use Rattle.spec.specs.Contents.{Absent, Value, chosen, tops, contents, capacity, kept_in}
use Rattle.spec.specs.Opening.{opening}
use Rattle.spec.specs.Actions.{format_of, blank_of, fill_of, append_of, commit_of, body_of, padded}
use Rattle.spec.specs.Plans.{plan_put, plan_delete, plan_commit, plan_clean, log_place, chosen_chunk, look_up}
use Rattle.spec.specs.Machine.{Format, Open, Put, Delete, Commit, LookUp, Choose, Clean, Closed, next}
use Rattle.std.specs.declared.option.Option.TheVariants as G
use Rattle.examples.specs.Shown.{Accepted, Refused, Number, Words}
use Rattle.examples.specs.Script.{Line, Answers, Runs, Has, Lists, Memory, holds}

-- memory that was never formatted
abbrev unformatted : Memory
unformatted = record { state = Closed; words = replicate 2048 17 }

abbrev hello : List ℕ
hello = 104 ∷ 101 ∷ 108 ∷ 108 ∷ 111 ∷ []

abbrev session : List Line
session =
    Answers Open (Refused 2)
    ∷ Runs (Format 12 G.None G.None) 582 (0 ∷ 0 ∷ 0 ∷ []) 0
    ∷ Answers (LookUp 7) (Refused 2)
    ∷ Answers Open Accepted
    ∷ Lists []
    -- commit put 7 of 5 bytes and put 9 empty: word of chunk 1 is 257
    ∷ Runs (Put G.None 7 hello) 0 (0 ∷ 0 ∷ 0 ∷ []) 0
    ∷ Runs (Put G.None 9 []) 0 (0 ∷ 0 ∷ 0 ∷ []) 0
    ∷ Answers (LookUp 7) (Refused 11)
    ∷ Runs Commit 13 (257 ∷ 0 ∷ 0 ∷ []) 0
    ∷ Has 7 (Value hello)
    ∷ Has 9 (Value [])
    ∷ Answers (LookUp 7) (Words (4112 ∷ 5 ∷ 1 ∷ []))
    ∷ Answers (LookUp 9) (Words (4136 ∷ 0 ∷ 1 ∷ []))
    -- commit delete 9: 513
    ∷ Runs (Delete G.None 9) 0 (257 ∷ 0 ∷ 0 ∷ []) 0
    ∷ Answers (Clean 1) (Refused 15)
    ∷ Runs Commit 13 (513 ∷ 0 ∷ 0 ∷ []) 0
    ∷ Has 7 (Value hello)
    ∷ Has 9 Absent
    ∷ Answers (LookUp 9) (Refused 11)
    ∷ Lists (7 ∷ 1 ∷ 5 ∷ 0 ∷ [])
    -- cleaning chunk 1 copies 1 entry: word of chunk 1 is 0, of chunk 2 is 257
    ∷ Answers Choose (Number 1)
    ∷ Runs (Clean 1) 16 (0 ∷ 257 ∷ 0 ∷ []) 1
    ∷ Answers (LookUp 7) (Words (8208 ∷ 5 ∷ 1 ∷ []))
    ∷ Answers (LookUp 9) (Refused 11)
    ∷ Answers Choose (Refused 16)
    ∷ Answers Open Accepted
    ∷ Lists (7 ∷ 1 ∷ 5 ∷ 0 ∷ [])
    ∷ []

pub computed : T (holds session unformatted)
unfolding base first_line word_chunk chunk_bytes chunk_words chunk_lines chunk_units chunks_in length_allowed header_tail header_test role_of lines_of is_size directory_right first_of_word step_of block_limit chosen tops contents capacity kept_in opening format_of blank_of fill_of append_of commit_of body_of padded next plan_put plan_delete plan_commit plan_clean log_place chosen_chunk look_up fields_test power_said power_bit power_field size_allowed any_allowed
computed = tt
