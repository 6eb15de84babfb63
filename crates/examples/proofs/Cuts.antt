-- Power cuts, computed: what a right program leaves at each step, and what wrong ones leave, the rules' slips among
-- them.
-- Assumes nothing.
use mathlib.Core.List.{List, [], ◌∷◌, ◌++◌, map}
use Prim.Native.Nat.{ℕ}
use lib.Dec.{T}
use lib.ListN.{replicate, take, drop}
use Rattle.spec.specs.Basics.{all, up_from}
use Rattle.spec.specs.Words.{packed, value_bytes}
use Rattle.spec.specs.Places.{base_power, base, first_line, chunk_bytes, chunk_words, chunk_lines, chunk_units, chunks_in, length_allowed, unit_chunk, unit_in, word_chunk, size_allowed, any_allowed}
use Rattle.spec.specs.Medium.{Action, settled_at}
use Rattle.spec.specs.Header.{header_tail, header_test, fields_test, power_said, power_bit, power_field}
use Rattle.spec.specs.Directory.{role_of, lines_of, size_of, size_for, is_size, directory_right}
use Rattle.spec.specs.Log.{encode_all, first_of_word, step_of}
use Rattle.spec.specs.Blocks.{block_test}
use Rattle.spec.specs.Contents.{Absent, Value, chosen, tops, capacity, contents, entries_in, kept_in}
use Rattle.spec.specs.Opening.{opening}
use Rattle.spec.specs.Actions.{append_of, commit_of, body_of, padded, block_of, free_of, format_of, blank_of, fill_of}
use Rattle.spec.specs.Reports.{run_words}
use Rattle.spec.specs.Plans.{Plan, Refuse, Begin, entry, plan_clean, log_place}
use Rattle.spec.specs.Machine.{Put, Delete, Commit, Step}
use Rattle.spec.specs.Book.{Book, new_book, note}
use Rattle.std.specs.declared.option.Option.TheVariants as G
use Rattle.spec.specs.declared.Report.TheVariants as R
use Rattle.examples.specs.Images.{first, log, blocks, minus}
use Rattle.examples.specs.Cut.{Seen, Refusal, Holds, Sight, ◌show◌, ◌shows◌, sight_holds, seen, newest, older, by_turns, losing, keeping_only, after, after_each}

-- An image of four chunks: the directory words of chunks 1 and 2, eight words in the first line of chunk 1, the words
-- behind them up to chunk 2, and the words of chunk 2, with those behind these.
abbrev image : ℕ → ℕ → List ℕ → ℕ → List ℕ → ℕ → List ℕ
image one two line behind words rest =
    1 ∷ 4 ∷ 0 ∷ 0 ∷ 0 ∷ 0 ∷ 0 ∷ minus 5 ∷ 0 ∷ one ∷ two ∷ 0 ∷ (replicate 500 0 ++ (line ++ (replicate 504 behind ++ (words ++ replicate rest 3))))

-- put 7, version 1, one byte, in a line
abbrev put7 : List ℕ
put7 = first 1 0 1 1 ∷ 7 ∷ 104 ∷ 0 ∷ 0 ∷ 0 ∷ 0 ∷ 0 ∷ []

-- put 7 is committed; the words behind it are such as an earlier use left
abbrev over : ℕ → List ℕ
over behind = image (log 1) 0 put7 behind [] 1024

abbrev keys : List ℕ
keys = 7 ∷ 9 ∷ []

abbrev old : Seen
old = Holds (Value (104 ∷ []) ∷ Absent ∷ [])

-- A COMMIT of delete 7 and put 9: eight stores, a flush, a fence; the directory word, a flush, a fence
abbrev commit : List Action
commit = append_of base_power 1 (log 1) 1 (encode_all (entry 2 0 2 0 7 [] ∷ entry 1 0 1 1 9 (33 ∷ []) ∷ []))

abbrev new : Seen
new = Holds (Absent ∷ Value (33 ∷ []) ∷ [])

-- the book when the end is reported
abbrev ended : Book
ended =
    note Step (R.End 0) (note Commit (R.Begun 13) (note (Put G.None 9 (33 ∷ [])) (R.Begun 0) (note (Delete G.None 7) (R.Begun 0)
    (new_book (contents base_power 4 (over 3))))))

abbrev in_book : Seen
in_book = Holds (map ended.register keys)

-- CLEANING: put 7 in chunk 1; its delete, and put 9, in chunk 2
abbrev deleted : List ℕ
deleted = image (log 1) (log 1) put7 3 (first 2 0 2 0 ∷ 7 ∷ first 1 0 1 1 ∷ 9 ∷ 33 ∷ 0 ∷ 0 ∷ 0 ∷ []) 1016

abbrev actions_of : Plan → List Action
actions_of (Refuse n) = []
actions_of (Begin items task acts) = acts

abbrev cleaning : ℕ → List ℕ → List Action
cleaning c ws = actions_of (plan_clean base_power 4 ws (entries_in base_power 4 ws) [] c)

abbrev dropping_deletes : List Action
dropping_deletes = append_of base_power 1 (log 1) 1 (encode_all (entry 1 0 1 1 9 (33 ∷ []) ∷ [])) ++ free_of 2 (log 1)

-- BLOCKS: put 7, version 1, in the block at unit 32; a commit of version 2 in the log; another value stored in that
-- block
abbrev in_block : List ℕ
in_block = image (log 1) (blocks 2) (first 1 1 1 32 ∷ 7 ∷ 0 ∷ 0 ∷ 0 ∷ 0 ∷ 0 ∷ 0 ∷ []) 3 (257 ∷ replicate 33 1) 990

abbrev superseding : List Action
superseding = append_of base_power 1 (log 1) 1 (encode_all (entry 1 0 2 1 7 (33 ∷ []) ∷ []))

abbrev reusing : List Action
reusing = block_of 32 (257 ∷ replicate 33 2)

-- FORMATTING, its first twelve actions, up to the directory word of chunk 1
abbrev formatting : List Action
formatting = take 12 (format_of base_power 4 G.None G.None)

abbrev unfenced : List Action
unfenced = take 9 commit ++ drop 10 commit

abbrev rows : List Sight
rows =
    -- a commit: the old register until the directory word is stored, then either, and the new one after the last fence
    after_each commit newest (settled_at (over 3)) keys show (replicate 11 old ++ replicate 3 new)
    ∷ after_each commit older (settled_at (over 3)) keys show (replicate 13 old ++ replicate 1 new)
    ∷ after_each commit by_turns (settled_at (over 3)) keys show (replicate 13 old ++ replicate 1 new)
    -- the end is reported after the last fence: whatever the cut, what opens is what the book says
    ∷ in_book shows new
    ∷ after commit older (over 3) keys shows new
    -- SLIP: the last fence is left out; the end is reported before the directory word is stored; the entries' line is
    -- not flushed
    ∷ after (take 12 commit) older (over 3) keys shows old
    ∷ after (take 10 commit) newest (over 3) keys shows old
    ∷ after (take 8 commit ++ drop 9 commit) older (over 3) keys shows Refusal 4
    -- SLIP: the directory word is stored before the entries are fenced. No cut, no harm; else words of an earlier use
    -- are read as entries: 3 is refused, 17 and 17 are a put of key 17
    ∷ after unfenced older (over 3) keys shows new
    ∷ after (take 10 unfenced) (keeping_only 9) (over 3) keys shows Refusal 4
    ∷ after (take 10 unfenced) (keeping_only 9) (over 17) (7 ∷ 9 ∷ 17 ∷ []) shows Holds (Value (104 ∷ []) ∷ Absent ∷ Value [] ∷ [])
    -- SLIP: cleaning chunk 2 drops the delete while the older put is committed in chunk 1: the label returns
    ∷ seen deleted keys shows new
    ∷ after (cleaning 2 deleted) newest deleted keys shows new
    ∷ after dropping_deletes newest deleted keys shows Holds (Value (104 ∷ []) ∷ Value (33 ∷ []) ∷ [])
    -- once chunk 1 is freed, the delete may go
    ∷ seen (run_words (cleaning 1 deleted) deleted) keys shows new
    ∷ seen (run_words (cleaning 2 (run_words (cleaning 1 deleted) deleted)) (run_words (cleaning 1 deleted) deleted)) keys shows new
    -- SLIP: the superseded block is stored to before the new entry's last fence: a cut may show the old entry with the
    -- other value
    ∷ seen in_block (7 ∷ []) shows Holds (Value (value_bytes 257 (replicate 33 1)) ∷ [])
    ∷ after (superseding ++ reusing) older in_block (7 ∷ []) shows Holds (Value (33 ∷ []) ∷ [])
    ∷ after (take 12 superseding ++ reusing) (losing 9) in_block (7 ∷ []) shows Holds (Value (value_bytes 257 (replicate 33 2)) ∷ [])
    -- SLIP: an empty value read as padding. Put 34 empty is the words 17 and 34; were 17 padding, 34 would delete key 0
    ∷ seen (image (log 1) 0 (first 1 0 1 1 ∷ 0 ∷ 104 ∷ 17 ∷ 34 ∷ 0 ∷ 0 ∷ 0 ∷ []) 3 [] 1024) (0 ∷ 34 ∷ []) shows Holds (Value (104 ∷ []) ∷ Value [] ∷ [])
    ∷ seen (image (log 1) 0 (first 1 0 1 1 ∷ 0 ∷ 104 ∷ 0 ∷ 34 ∷ 0 ∷ 0 ∷ 0 ∷ []) 3 [] 1024) (0 ∷ 34 ∷ []) shows Holds (Absent ∷ Absent ∷ [])
    -- SLIP: a caret or escape in a value altered: all 256 bytes come back
    ∷ seen (run_words (append_of base_power 1 (log 1) 1 (encode_all (entry 1 0 1 256 9 (packed (up_from 0 256)) ∷ []))) (over 3)) (9 ∷ []) shows Holds (Value (up_from 0 256) ∷ [])
    -- formatting over a register: the old one until word 0 is fenced, then none; without its first three actions, half
    -- of the old one
    ∷ after_each formatting newest (settled_at deleted) keys show (new ∷ replicate 12 (Refusal 2))
    ∷ after_each formatting older (settled_at deleted) keys show (replicate 3 new ++ replicate 10 (Refusal 2))
    ∷ after (drop 3 formatting) newest (image (log 1) (log 1) put7 3 (first 1 0 1 1 ∷ 9 ∷ 33 ∷ 0 ∷ 0 ∷ 0 ∷ 0 ∷ 0 ∷ []) 1016) keys shows Holds (Absent ∷ Value (33 ∷ []) ∷ [])
    ∷ []

pub computed : T (all sight_holds rows)
unfolding base first_line chunk_bytes chunk_words chunk_lines chunk_units chunks_in length_allowed unit_chunk unit_in word_chunk header_tail header_test role_of lines_of size_of size_for is_size directory_right first_of_word step_of block_test chosen tops capacity contents kept_in opening append_of commit_of body_of padded block_of format_of blank_of fill_of plan_clean log_place fields_test power_said power_bit power_field size_allowed any_allowed
computed = tt
