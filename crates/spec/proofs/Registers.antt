-- What calls do to the register that an image means, and what a cut in a formatting leaves, computed on small images.
-- Assumes nothing.
use mathlib.Core.Bool.{Bool}
use mathlib.Core.List.{List, [], ◌∷◌}
use Prim.Native.Nat.{ℕ}
use lib.Dec.{T, eqb}
use lib.ListN.{replicate, take}
use Rattle.spec.specs.Basics.{pick, both, negate, every}
use Rattle.spec.specs.Places.{base_power, base, first_line, first_unit, chunk_bytes, chunk_words, chunk_lines, chunk_units, chunks_in, length_allowed, unit_chunk, unit_in, word_chunk, size_allowed, any_allowed}
use Rattle.spec.specs.Medium.{Action, run, cut, latest, settled_at}
use Rattle.spec.specs.Header.{header_test, header_tail, fields_test, power_said, power_bit, power_field}
use Rattle.spec.specs.Directory.{role_of, lines_of, size_of, size_for, is_size, directory_right}
use Rattle.spec.specs.Log.{Entry, first_of_word, step_of}
use Rattle.spec.specs.Blocks.{block_test}
use Rattle.spec.specs.Contents.{Absent, Value, same_held, chosen, tops, capacity, contents, entries_in, kept_in}
use Rattle.spec.specs.Opening.{opening}
use Rattle.spec.specs.Actions.{append_of, commit_of, body_of, padded, fill_of, blank_of, format_of}
use Rattle.spec.specs.Plans.{entry, plan_commit, plan_clean, log_place}
use Rattle.spec.specs.Machine.{Call, Commit, Clean}
use Rattle.spec.specs.Book.{Item}
use Rattle.spec.specs.Means.{does}
use Rattle.std.specs.declared.option.Option.TheVariants as G
use Rattle.spec.proofs.Slips.{image, line, accepted, begun_actions, before}

-- a call from its begin to its end does to keys 7, 8 and 9 what `does` says
abbrev done_at : Call → List Item → List ℕ → List ℕ → ℕ → Bool
done_at k tray ws after key = same_held (contents base_power 4 after key) (does k tray (contents base_power 4 ws) key)

abbrev done_in : Call → List Item → List ℕ → List ℕ → Bool
done_in k tray ws after = both (done_at k tray ws after 7) (both (done_at k tray ws after 8) (done_at k tray ws after 9))

abbrev done : Call → List Item → List ℕ → List Action → Bool
done k tray ws acts = done_in k tray ws (latest (run acts (settled_at ws)))

-- put 7, delete 7, put 9, as items and as entries
abbrev tray : List Item
tray = record { key = 7; gets = Value (33 ∷ []) } ∷ record { key = 7; gets = Absent } ∷ record { key = 9; gets = Value (5 ∷ []) } ∷ []

abbrev staged : List Entry
staged = entry 1 0 2 1 7 (33 ∷ []) ∷ entry 2 0 3 0 7 [] ∷ entry 1 0 2 1 9 (5 ∷ []) ∷ []

-- a delete of 7 in chunk 2; a put of 8 there
abbrev deleted : List ℕ
deleted = image 257 257 line (34 ∷ 7 ∷ replicate 6 0)

abbrev two : List ℕ
two = image 257 257 line (16777233 ∷ 8 ∷ 104 ∷ replicate 5 0)

-- of a formatting's stores those of words 1 to 9 were made, and the cut keeps that of word 9 alone
abbrev chunk_one_lost : ℕ → ℕ
chunk_one_lost i = pick (eqb i 9) 0 1

abbrev opens : List ℕ → Bool
opens ws = accepted (opening 16384 ws 64)

abbrev rows : List Bool
rows =
    done Commit tray before (begun_actions (plan_commit base_power 4 before staged))
    ∷ done (Clean 2) [] deleted (begun_actions (plan_clean base_power 4 deleted (entries_in base_power 4 deleted) [] 2))
    ∷ opens two
    ∷ negate (opens (cut chunk_one_lost (run (take 12 (format_of base_power 4 G.None G.None)) (settled_at two))))
    ∷ []

pub computed : T (every rows)
unfolding base first_line first_unit chunk_bytes chunk_words chunk_lines chunk_units chunks_in length_allowed unit_chunk unit_in word_chunk header_test header_tail role_of lines_of size_of size_for is_size directory_right first_of_word step_of block_test chosen tops capacity contents kept_in opening append_of commit_of body_of padded fill_of blank_of format_of plan_commit plan_clean log_place fields_test power_said power_bit power_field size_allowed any_allowed
computed = tt
