-- The other calls' refusals: an example for each number of the rules' table, what is nearest to it and accepted, and
-- their order; and which of equal chunks is chosen.
-- Assumes nothing.
use mathlib.Core.Bool.{true, false}
use mathlib.Core.List.{List, [], ◌∷◌}
use Prim.Native.Nat.{ℕ, zero, suc}
use lib.Dec.{T}
use lib.ListN.{replicate}
use Rattle.spec.specs.Places.{base_power, large_power, base, first_line, first_unit, chunk_bytes, chunk_words, chunk_lines, chunk_units, chunks_in, length_allowed, unit_chunk, unit_in, word_chunk, size_allowed, any_allowed}
use Rattle.spec.specs.Medium.{Fence}
use Rattle.spec.specs.Header.{header_tail, header_test, fields_test, power_said, power_bit, power_field}
use Rattle.spec.specs.Directory.{role_of, lines_of, size_of, size_for, is_size, directory_right}
use Rattle.spec.specs.Log.{Entry, first_of_word, step_of}
use Rattle.spec.specs.Blocks.{block_limit, units_for, block_size, block_test}
use Rattle.spec.specs.Contents.{chosen, tops, capacity, kept_in}
use Rattle.spec.specs.Opening.{opening}
use Rattle.spec.specs.Actions.{append_of, commit_of, body_of, padded, block_of, format_of, blank_of, fill_of}
use Rattle.spec.specs.Plans.{Committing, entry, plan_put, plan_delete, plan_commit, plan_clean, slot_for, log_place, chosen_chunk, look_up}
use Rattle.spec.specs.Machine.{Call, Format, Open, Put, Delete, Commit, Abandon, LookUp, Choose, Clean, Step, State, Closed, Rest, Busy, Formatting, answer}
use Rattle.std.specs.declared.option.Option.TheVariants as G
use Rattle.examples.specs.Shown.{Shown, Words, Number, Refused, Accepted, Begun, Fenced, Idle, shown_report, Row, ◌is◌, all_hold}
use Rattle.examples.specs.Images.{Change, ◌becomes◌, changed, image, first, log, blocks}

abbrev ask : Call → State → List ℕ → ℕ → ℕ → Shown
ask k σ ws bytes table = shown_report (answer k σ ws bytes table)

-- on an open register of 16,384 bytes with a table of 64 words: these items are staged, and these words are changed
abbrev on : List Entry → List Change → Call → Shown
on items changes k = ask k (Rest 12 16384 64 items) (changed changes image) 16384 64

-- on a register of four chunks as a formatting leaves it
abbrev empty : List ℕ
empty = 1 ∷ blank_of (header_tail base_power 4 G.None G.None)

abbrev on_empty : List Entry → List Change → Call → Shown
on_empty items changes k = ask k (Rest 12 16384 64 items) (changed changes empty) 16384 64

-- staged items: an empty put, a delete, a put in a block; n empty puts of keys n and below
abbrev put : ℕ → ℕ → Entry
put version key = entry 1 0 version 0 key []

abbrev delete : ℕ → ℕ → Entry
delete version key = entry 2 0 version 0 key []

abbrev put_in : ℕ → ℕ → Entry
put_in unit key = entry 1 1 1 unit key []

abbrev puts : ℕ → List Entry
puts zero = []
puts (suc n) = put 1 (suc n) ∷ puts n

-- unfinished calls
abbrev committing : State
committing = Busy 12 16384 64 [] (Committing ((1, log 6) ∷ [])) (Fence ∷ [])

-- a delete of 7 in a seventh line of chunk 1, and the directory word that commits it
abbrev deleting : List ℕ
deleting =
    changed (560 becomes first 2 0 2 0 ∷ 561 becomes 7 ∷ 562 becomes 0 ∷ 563 becomes 0 ∷ 564 becomes 0 ∷ 565 becomes 0
    ∷ 566 becomes 0 ∷ 567 becomes 0 ∷ 9 becomes log 7 ∷ []) image

abbrev large : ℕ → List ℕ
large bytes = replicate bytes 94

abbrev rows : List Row
rows =
    -- 2: no register open; a formatting begun without one
    ask (LookUp 7) Closed image 16384 64 is Refused 2
    ∷ ask (LookUp 7) (Formatting false 16384 64 []) image 16384 64 is Refused 2
    ∷ on [] [] (LookUp 7) is Words (4112 ∷ 5 ∷ 1 ∷ [])
    -- 1: a lent length unlike that at opening, or at a formatting's begin; an idle step looks at no length
    ∷ ask (LookUp 7) (Rest 12 16384 64 []) image 20480 64 is Refused 1
    ∷ ask (LookUp 7) (Rest 12 16384 64 []) image 16384 63 is Refused 1
    ∷ ask Step committing image 16384 63 is Refused 1
    ∷ ask Step committing image 16384 64 is Fenced
    ∷ ask Step (Formatting true 16384 64 (Fence ∷ [])) image 20480 64 is Refused 1
    ∷ ask Step (Formatting true 16384 64 (Fence ∷ [])) image 16384 64 is Fenced
    ∷ ask Step (Rest 12 16384 64 []) image 20480 63 is Idle
    ∷ ask Step Closed image 0 0 is Idle
    -- 1: a formatting asks only whether the length is allowed
    ∷ ask (Format 12 G.None G.None) (Rest 12 16384 64 []) image 4095 64 is Refused 1
    ∷ ask (Format 12 G.None G.None) (Rest 12 16384 64 []) image 20480 63 is Begun 582
    ∷ ask (Format 16 G.None G.None) (Rest 12 16384 64 []) image 262144 63 is Begun 582
    ∷ ask (Format 12 G.None G.None) (Rest 12 16384 64 []) image 262144 63 is Begun 582
    ∷ ask (Format 16 G.None G.None) (Rest 12 16384 64 []) image 20480 63 is Refused 1
    ∷ ask (Format 16 G.None G.None) (Rest 12 16384 64 []) image 196608 63 is Refused 1
    ∷ ask (Format 13 G.None G.None) (Rest 12 16384 64 []) image 262144 63 is Refused 1
    -- 8: a call is unfinished; an opening may come at any time
    ∷ ask Commit committing image 16384 64 is Refused 8
    ∷ ask (LookUp 7) (Formatting true 16384 64 []) image 16384 64 is Refused 8
    ∷ ask (LookUp 7) (Formatting true 16384 64 []) image 20480 64 is Refused 1
    ∷ ask (LookUp 7) (Formatting true 16384 64 []) image 16384 63 is Refused 1
    ∷ ask (LookUp 7) (Formatting false 16384 64 []) image 16384 64 is Refused 2
    ∷ ask (Format 12 G.None G.None) committing image 16384 64 is Refused 8
    ∷ ask (Format 12 G.None G.None) (Formatting false 16384 64 []) image 16384 64 is Refused 8
    ∷ ask Open committing image 16384 64 is Accepted
    -- look-up in a commit that deletes 7: the register of before, and from the last fence on the one that it makes
    ∷ ask (LookUp 7) committing image 16384 64 is Words (4112 ∷ 5 ∷ 1 ∷ [])
    ∷ ask (LookUp 7) committing deleting 16384 64 is Words (4112 ∷ 5 ∷ 1 ∷ [])
    ∷ ask (LookUp 7) (Busy 12 16384 64 [] (Committing ((1, log 6) ∷ [])) []) deleting 16384 64 is Refused 11
    ∷ ask (LookUp 7) committing image 20480 64 is Refused 1
    -- 9: value too long
    ∷ on_empty [] [] (Put G.None 7 (large 4089)) is Refused 9
    ∷ on_empty [] [] (Put G.None 7 (large 4088)) is Begun 578
    -- 10: a 17th item
    ∷ on_empty (puts 16) [] (Put G.None 17 []) is Refused 10
    ∷ on_empty (puts 15) [] (Put G.None 17 []) is Begun 0
    ∷ on_empty (puts 16) [] (Delete G.None 7) is Refused 10
    ∷ on_empty (puts 15) [] (Delete G.None 7) is Begun 0
    -- 11: key absent; for a delete staged items are counted, for a look-up they are unseen
    ∷ on_empty [] [] (Delete G.None 5) is Refused 11
    ∷ on_empty (put 1 5 ∷ []) [] (Delete G.None 5) is Begun 0
    ∷ on [] [] (Delete G.None 5) is Refused 11
    ∷ on [] [] (Delete G.None 7) is Begun 0
    ∷ on (delete 2 7 ∷ []) [] (Delete G.None 7) is Refused 11
    ∷ on (delete 2 7 ∷ put 3 7 ∷ []) [] (Delete G.None 7) is Begun 0
    ∷ on [] [] (LookUp 5) is Refused 11
    ∷ on (put 3 5 ∷ delete 2 7 ∷ []) [] (LookUp 5) is Refused 11
    ∷ on (put 3 5 ∷ delete 2 7 ∷ []) [] (LookUp 7) is Words (4112 ∷ 5 ∷ 1 ∷ [])
    -- 12: a put's version would pass 1,048,574, a delete's 1,048,575; staged ones counted
    ∷ on [] (512 becomes first 1 0 1048574 5 ∷ []) (Put G.None 7 []) is Refused 12
    ∷ on [] (512 becomes first 1 0 1048573 5 ∷ []) (Put G.None 7 []) is Begun 0
    ∷ on [] (512 becomes first 1 0 1048574 5 ∷ []) (Put G.None 7 (large 505)) is Refused 12
    ∷ on [] (512 becomes first 1 0 1048573 5 ∷ []) (Put G.None 7 (large 505)) is Begun 74
    ∷ on (put 1048574 7 ∷ []) (512 becomes first 1 0 1048573 5 ∷ []) (Put G.None 7 []) is Refused 12
    ∷ on (delete 1048573 7 ∷ []) (512 becomes first 1 0 1048572 5 ∷ []) (Put G.None 7 []) is Begun 0
    ∷ on [] (512 becomes first 1 0 1048574 5 ∷ []) (Delete G.None 7) is Begun 0
    ∷ on (put 1048574 7 ∷ []) (512 becomes first 1 0 1048573 5 ∷ []) (Delete G.None 7) is Begun 0
    -- 12: an older image has a put at the last version: it is read, and neither put nor deleted
    ∷ on [] (512 becomes first 1 0 1048575 5 ∷ []) (Put G.None 7 []) is Refused 12
    ∷ on [] (512 becomes first 1 0 1048575 5 ∷ []) (Delete G.None 7) is Refused 12
    ∷ on [] (512 becomes first 1 0 1048575 5 ∷ []) (LookUp 7) is Words (4112 ∷ 5 ∷ 1048575 ∷ [])
    ∷ on [] (512 becomes first 1 0 1048575 5 ∷ []) Open is Accepted
    -- 12: deleted at the last version: a delete gets 11
    ∷ on [] (517 becomes first 2 0 1048575 0 ∷ []) (Put G.None 5 []) is Refused 12
    ∷ on [] (517 becomes first 2 0 1048575 0 ∷ []) (Delete G.None 5) is Refused 11
    ∷ on (delete 1048575 7 ∷ []) (512 becomes first 1 0 1048574 5 ∷ []) (Put G.None 7 []) is Refused 12
    ∷ on (delete 1048575 7 ∷ []) (512 becomes first 1 0 1048574 5 ∷ []) (Delete G.None 7) is Refused 11
    -- 17: a named version is not the key's highest, staged items counted; 0 is that of a key neither known nor staged
    ∷ on [] [] (Put (G.Some 1) 7 []) is Begun 0
    ∷ on [] [] (Put (G.Some 0) 7 []) is Refused 17
    ∷ on [] [] (Put (G.Some 2) 7 []) is Refused 17
    ∷ on [] [] (Put (G.Some 18446744073709551615) 7 []) is Refused 17
    ∷ on [] [] (Put (G.Some 1) 7 (large 505)) is Begun 74
    ∷ on [] [] (Put (G.Some 2) 7 (large 505)) is Refused 17
    ∷ on (put 2 7 ∷ []) [] (Put (G.Some 1) 7 []) is Refused 17
    ∷ on (put 2 7 ∷ []) [] (Put (G.Some 2) 7 []) is Begun 0
    ∷ on [] [] (Delete (G.Some 1) 7) is Begun 0
    ∷ on [] [] (Delete (G.Some 2) 7) is Refused 17
    ∷ on [] [] (Put (G.Some 0) 5 []) is Refused 17
    ∷ on_empty [] [] (Put (G.Some 0) 5 []) is Begun 0
    ∷ on_empty [] [] (Put (G.Some 1) 5 []) is Refused 17
    -- 17 comes after 9 and 11, before 12
    ∷ on [] [] (Put (G.Some 2) 7 (large 4089)) is Refused 9
    ∷ on [] [] (Delete (G.Some 7) 5) is Refused 11
    ∷ on [] (512 becomes first 1 0 1048574 5 ∷ []) (Put (G.Some 1048574) 7 []) is Refused 12
    ∷ on [] (512 becomes first 1 0 1048574 5 ∷ []) (Put (G.Some 1048573) 7 []) is Refused 17
    ∷ on [] (512 becomes first 1 0 1048575 5 ∷ []) (Delete (G.Some 1048575) 7) is Refused 12
    ∷ on [] (512 becomes first 1 0 1048575 5 ∷ []) (Delete (G.Some 1048574) 7) is Refused 17
    -- 7: known and staged keys exceed the table: of three words, and of 16 or 20 with four known
    ∷ ask (Put G.None 7 []) (Rest 12 16384 3 []) empty 16384 3 is Refused 7
    ∷ ask (Put G.None 7 []) (Rest 12 16384 4 []) empty 16384 4 is Begun 0
    ∷ ask (Put G.None 7 []) (Rest 12 16384 16 []) image 16384 16 is Begun 0
    ∷ ask (Put G.None 5 []) (Rest 12 16384 16 []) image 16384 16 is Begun 0
    ∷ ask (Put G.None 8 []) (Rest 12 16384 16 []) image 16384 16 is Refused 7
    ∷ ask (Put G.None 8 []) (Rest 12 16384 20 []) image 16384 20 is Begun 0
    ∷ ask (Put G.None 8 []) (Rest 12 16384 20 (put 1 6 ∷ [])) image 16384 20 is Refused 7
    ∷ ask (Put G.None 6 []) (Rest 12 16384 20 (put 1 6 ∷ [])) image 16384 20 is Begun 0
    -- 14: nothing staged
    ∷ on_empty [] [] Commit is Refused 14
    ∷ on_empty (put 1 7 ∷ []) [] Commit is Begun 13
    ∷ on_empty [] [] Abandon is Refused 14
    ∷ on_empty (put 1 7 ∷ []) [] Abandon is Accepted
    -- 15: a batch is staged; choosing does not ask
    ∷ on (put 2 7 ∷ []) [] (Clean 1) is Refused 15
    ∷ on [] [] (Clean 1) is Begun 16
    ∷ on (put 2 7 ∷ []) [] Choose is Number 1
    -- 16: chunk 0, free, past the count, data with a live block; choosing finds none
    ∷ on [] [] (Clean 0) is Refused 16
    ∷ on [] [] (Clean 3) is Refused 16
    ∷ on [] [] (Clean 4) is Refused 16
    ∷ on [] [] (Clean 18446744073709551615) is Refused 16
    ∷ on [] [] (Clean 2) is Refused 16
    ∷ on [] (516 becomes 11 ∷ 520 becomes 11 ∷ 521 becomes first 2 0 2 0 ∷ 522 becomes 11 ∷ []) (Clean 2) is Begun 3
    ∷ on [] [] Choose is Number 1
    ∷ on [] (9 becomes log 2 ∷ []) Choose is Number 1
    ∷ on_empty [] [] Choose is Refused 16
    -- 13: staging of a large value: three chunks must be free, or a block of its size be neither live nor staged
    ∷ on_empty [] (9 becomes log 1 ∷ []) (Put G.None 7 (large 257)) is Refused 13
    ∷ on_empty [] [] (Put G.None 7 (large 257)) is Begun 41
    ∷ on_empty [] (9 becomes log 1 ∷ 10 becomes blocks 2 ∷ []) (Put G.None 7 (large 257)) is Begun 39
    ∷ on_empty [] (9 becomes log 1 ∷ 10 becomes blocks 3 ∷ []) (Put G.None 7 (large 257)) is Refused 13
    ∷ on_empty (put_in 32 5 ∷ []) (9 becomes log 1 ∷ 10 becomes blocks 16 ∷ []) (Put G.None 7 (large 4088)) is Refused 13
    ∷ on_empty [] (9 becomes log 1 ∷ 10 becomes blocks 16 ∷ []) (Put G.None 7 (large 4088)) is Begun 576
    ∷ on [] (515 becomes 0 ∷ 516 becomes 0 ∷ 10 becomes blocks 16 ∷ 519 becomes first 1 1 1 32 ∷ []) (Put G.None 7 (large 4088)) is Refused 13
    ∷ on [] (515 becomes 0 ∷ 516 becomes 0 ∷ 10 becomes blocks 16 ∷ 519 becomes first 2 0 1 0 ∷ []) (Put G.None 7 (large 4088)) is Begun 576
    -- 13: commit: a log chunk with space, else three free chunks, or two if all items are deletes
    ∷ on_empty (put 1 7 ∷ []) (9 becomes log 64 ∷ []) Commit is Refused 13
    ∷ on_empty (put 1 7 ∷ []) (9 becomes log 63 ∷ []) Commit is Begun 13
    ∷ on_empty (delete 2 7 ∷ []) (9 becomes log 64 ∷ []) Commit is Begun 13
    ∷ on_empty (delete 2 7 ∷ put 3 7 ∷ []) (9 becomes log 64 ∷ []) Commit is Refused 13
    ∷ on_empty (delete 2 7 ∷ []) (9 becomes log 64 ∷ 10 becomes log 64 ∷ []) Commit is Refused 13
    -- 13: cleaning: another log chunk with space, else a free chunk; none is needed where nothing is copied
    ∷ on [] (11 becomes blocks 2 ∷ []) (Clean 1) is Refused 13
    ∷ on [] (11 becomes log 64 ∷ []) (Clean 1) is Refused 13
    ∷ on [] (11 becomes log 63 ∷ []) (Clean 1) is Begun 16
    ∷ on_empty [] (9 becomes log 1 ∷ 10 becomes blocks 2 ∷ 11 becomes blocks 2 ∷ []) (Clean 1) is Begun 3
    -- the order: 2, 1, 8, 15, then 9, 11, 17, 12, 10, 7, 14, 16, 13
    ∷ ask Commit Closed image 20480 64 is Refused 2
    ∷ ask Commit committing image 20480 64 is Refused 1
    ∷ ask (Put G.None 7 (large 4089)) committing image 16384 64 is Refused 8
    ∷ ask (Clean 0) committing image 16384 64 is Refused 8
    ∷ on (puts 1) [] (Clean 0) is Refused 15
    ∷ on (puts 16) (512 becomes first 1 0 1048574 5 ∷ []) (Put G.None 7 (large 4089)) is Refused 9
    ∷ on (puts 16) [] (Delete G.None 25) is Refused 11
    ∷ on (put 1048574 5 ∷ puts 15) [] (Put G.None 5 []) is Refused 12
    ∷ on (put 1048574 5 ∷ puts 15) [] (Delete G.None 5) is Refused 10
    ∷ on (put 1048575 5 ∷ puts 15) [] (Delete G.None 5) is Refused 12
    ∷ ask (Put G.None 25 []) (Rest 12 16384 64 (puts 16)) empty 16384 64 is Refused 10
    ∷ ask (Put G.None 25 (large 257)) (Rest 12 16384 3 []) image 16384 3 is Refused 7
    ∷ on_empty [] (9 becomes log 64 ∷ 10 becomes log 64 ∷ 11 becomes log 64 ∷ []) Commit is Refused 14
    ∷ on [] (11 becomes log 64 ∷ []) (Clean 2) is Refused 16
    ∷ []

pub computed : T (all_hold rows)
unfolding base first_line first_unit chunk_bytes chunk_words chunk_lines chunk_units chunks_in length_allowed unit_chunk unit_in word_chunk header_tail header_test role_of lines_of size_of size_for is_size directory_right first_of_word step_of block_limit units_for block_size block_test chosen tops capacity kept_in opening append_of commit_of body_of padded block_of format_of blank_of fill_of plan_put plan_delete plan_commit plan_clean slot_for log_place chosen_chunk look_up fields_test power_said power_bit power_field size_allowed any_allowed
computed = tt

-- CHOOSING
abbrev choices : List Row
choices =
    -- choosing: of equally few bytes to copy the most committed lines, of those the highest number; bytes come before
    -- lines
    on_empty [] (9 becomes log 2 ∷ 10 becomes log 5 ∷ 11 becomes log 4 ∷ []) Choose is Number 2
    ∷ on_empty [] (9 becomes log 5 ∷ 10 becomes log 4 ∷ 11 becomes log 2 ∷ []) Choose is Number 1
    ∷ on_empty [] (9 becomes log 3 ∷ 10 becomes log 3 ∷ 11 becomes log 2 ∷ []) Choose is Number 2
    ∷ on_empty [] (9 becomes log 3 ∷ 10 becomes log 3 ∷ 11 becomes log 3 ∷ []) Choose is Number 3
    -- chunk 1 has six lines and 56 bytes to copy
    ∷ on [] (11 becomes log 6 ∷ 1536 becomes first 1 0 1 40 ∷ 1537 becomes 3 ∷ []) Choose is Number 3
    ∷ on [] (11 becomes log 5 ∷ 1536 becomes first 1 0 1 40 ∷ 1537 becomes 3 ∷ []) Choose is Number 1
    ∷ on [] (11 becomes log 64 ∷ 1536 becomes first 1 0 1 41 ∷ 1537 becomes 3 ∷ []) Choose is Number 1
    ∷ on [] (11 becomes log 2 ∷ 1536 becomes first 1 0 1 32 ∷ 1537 becomes 3 ∷ []) Choose is Number 3
    -- which of a key's top entries is chosen stays: the first, so that nothing of the later chunk is copied
    ∷ on [] (11 becomes log 2 ∷ 1536 becomes first 1 0 1 5 ∷ 1537 becomes 7 ∷ 1538 becomes 478560413032 ∷ []) Choose is Number 3
    ∷ []

pub choices-computed : T (all_hold choices)
unfolding base first_line first_unit chunk_bytes chunk_words chunk_lines chunk_units chunks_in length_allowed unit_chunk unit_in word_chunk header_tail header_test role_of lines_of size_of size_for is_size directory_right first_of_word step_of block_limit units_for block_size block_test chosen tops capacity kept_in opening append_of commit_of body_of padded block_of format_of blank_of fill_of plan_put plan_delete plan_commit plan_clean slot_for log_place chosen_chunk look_up fields_test power_said power_bit power_field size_allowed any_allowed
choices-computed = tt

-- LARGE CHUNKS: on a register of four chunks of 65,536 bytes as a formatting leaves it
abbrev empty_large : List ℕ
empty_large = 9 ∷ blank_of (header_tail large_power 4 G.None G.None)

abbrev on_large : List Entry → List Change → Call → Shown
on_large items changes k = ask k (Rest 16 262144 64 items) (changed changes empty_large) 262144 64

abbrev large_rows : List Row
large_rows =
    ask Open Closed empty_large 262144 64 is Accepted
    -- 9: a value fills a chunk but for its length word; a batch is no larger
    ∷ on_large [] [] (Put G.None 7 (large 65529)) is Refused 9
    ∷ on_large [] [] (Put G.None 7 (large 65528)) is Begun 9218
    ∷ on_large [] [] (Put G.None 7 (large 4089)) is Begun 580
    ∷ on_large (puts 16) [] (Put G.None 25 []) is Refused 10
    -- 13: a log chunk has 1,024 lines
    ∷ on_large (put 1 7 ∷ []) (9 becomes log 1024 ∷ []) Commit is Refused 13
    ∷ on_large (put 1 7 ∷ []) (9 becomes log 1023 ∷ []) Commit is Begun 13
    -- 13: a chunk of blocks of 51 units has five of them, so that the fifth is the last; of 64 units, four
    ∷ on_large (put_in 256 1 ∷ put_in 307 2 ∷ put_in 358 3 ∷ put_in 409 4 ∷ []) (9 becomes blocks 51 ∷ []) (Put G.None 7 (large 11000)) is Begun 1548
    ∷ on_large (put_in 256 1 ∷ put_in 307 2 ∷ put_in 358 3 ∷ put_in 409 4 ∷ put_in 460 5 ∷ []) (9 becomes blocks 51 ∷ []) (Put G.None 7 (large 11000)) is Refused 13
    ∷ []

pub large-computed : T (all_hold large_rows)
unfolding base first_line first_unit chunk_bytes chunk_words chunk_lines chunk_units chunks_in length_allowed unit_chunk unit_in word_chunk header_tail header_test role_of lines_of size_of size_for is_size directory_right first_of_word step_of block_limit units_for block_size block_test chosen tops capacity kept_in opening append_of commit_of body_of padded block_of format_of blank_of fill_of plan_put plan_delete plan_commit plan_clean slot_for log_place chosen_chunk look_up fields_test power_said power_bit power_field size_allowed any_allowed
large-computed = tt
