-- The slips that print the wrong label, as edits of the definitions: a small image on which each of them goes wrong is
-- computed here. The same slips as whole programs, with what an opening then shows, are in crate `examples`, `Cuts`.
-- Assumes nothing.
use mathlib.Core.Bool.{Bool, true, false}
use mathlib.Core.List.{List, [], ◌∷◌, ◌++◌}
use Prim.Native.Nat.{ℕ, ◌+◌, ◌*◌}
use lib.Dec.{T, eqb}
use lib.ListN.{length, replicate, take}
use Rattle.spec.specs.Basics.{pick, both, negate, every}
use Rattle.spec.specs.Places.{base_power, base, first_line, first_unit, chunk_bytes, chunk_words, chunk_lines, chunk_units, chunks_in, length_allowed, unit_chunk, unit_in, word_chunk, size_allowed, any_allowed}
use Rattle.spec.specs.Medium.{Action, run, cut, settled_at}
use Rattle.spec.specs.Header.{header_test, fields_test, power_said}
use Rattle.spec.specs.Directory.{role_of, lines_of, size_of, size_for, is_size, directory_right}
use Rattle.spec.specs.Log.{first_of_word, step_of}
use Rattle.spec.specs.Blocks.{block_test}
use Rattle.spec.specs.Contents.{Held, Absent, Value, same_held, chosen, tops, capacity, contents, entries_in, kept_in}
use Rattle.spec.specs.Opening.{Opening, Refused, Accepted, opening}
use Rattle.spec.specs.Actions.{append_of, commit_of, body_of, padded}
use Rattle.spec.specs.Plans.{Plan, Refuse, Begin, Slot, InData, InFree, Nowhere, entry, plan_commit, log_place, slot_for}

-- Four chunks: the directory words of chunks 1 and 2, eight words in the first line of each; words that mean nothing
-- are 3.
abbrev pub image : ℕ → ℕ → List ℕ → List ℕ → List ℕ
image one two first second =
    1 ∷ 4 ∷ 0 ∷ 0 ∷ 0 ∷ 0 ∷ 0 ∷ 18446744073709551611 ∷ 0 ∷ one ∷ two ∷ 0 ∷ (replicate 500 0 ++ (first ++ (replicate 504 3 ++ (second ++ replicate 1016 3))))

-- put 7 of one byte; put 9 of no byte
abbrev pub line : List ℕ
line = 16777233 ∷ 7 ∷ 104 ∷ 17 ∷ 9 ∷ 0 ∷ 0 ∷ 0 ∷ []

abbrev pub accepted : Opening → Bool
accepted (Refused n) = false
accepted (Accepted es) = true

-- the image opens, and keys 7 and 9 have this
abbrev shows : List ℕ → Held → Held → Bool
shows ws seven nine =
    both (accepted (opening 16384 ws 64)) (both (same_held (contents base_power 4 ws 7) seven) (same_held (contents base_power 4 ws 9) nine))

-- the commit of a delete of 7 and a put of 9, behind that line, and cuts in it
abbrev pub begun_actions : Plan → List Action
begun_actions (Refuse n) = []
begun_actions (Begin items task acts) = acts

abbrev pub before : List ℕ
before = image 257 0 line (replicate 8 3)

abbrev commit : List Action
commit = begun_actions (plan_commit base_power 4 before (entry 2 0 2 0 7 [] ∷ entry 1 0 2 1 9 (33 ∷ []) ∷ []))

abbrev older : ℕ → ℕ
older i = 1

abbrev directory_alone : ℕ → ℕ
directory_alone i = pick (eqb i 9) 0 1

abbrev block_of_slot : Slot → ℕ
block_of_slot (InData u) = u
block_of_slot (InFree c) = 0
block_of_slot Nowhere = 0

-- put 7 points to the block at unit 32, the first of chunk 2
abbrev in_block : List ℕ
in_block = image 257 514 (536870933 ∷ 7 ∷ 0 ∷ 0 ∷ 0 ∷ 0 ∷ 0 ∷ 0 ∷ []) (257 ∷ replicate 7 3)

-- two puts of 7, of one version: the first in the block at unit 32, the second in that at unit u; the blocks hold the
-- same value
abbrev twins : ℕ → List ℕ
twins u = take 2048 (image 257 514 (536870933 ∷ 7 ∷ (16777216 * u + 21) ∷ 7 ∷ 0 ∷ 0 ∷ 0 ∷ 0 ∷ []) (257 ∷ (replicate 63 3 ++ (257 ∷ replicate 7 3))))

abbrev rows : List Bool
rows =
    -- an empty value is present
    shows before (Value (104 ∷ [])) (Value [])
    -- after the whole commit every cut shows it; where its directory word alone is kept, its entries are there
    ∷ shows (cut older (run commit (settled_at before))) Absent (Value (33 ∷ []))
    ∷ shows (cut directory_alone (run (take 11 commit) (settled_at before))) Absent (Value (33 ∷ []))
    -- cleaning chunk 2 keeps a delete whose put is committed in chunk 1
    ∷ eqb (length (kept_in base_power 2 (entries_in base_power 4 (image 257 257 line (34 ∷ 7 ∷ replicate 6 0))))) 1
    -- a live block is not taken: the next one is
    ∷ eqb (block_of_slot (slot_for base_power 4 in_block (entries_in base_power 4 in_block) [] 2)) 34
    -- top puts of a key agree in one block, and in two they do not, whatever these hold
    ∷ accepted (opening 16384 (twins 32) 64)
    ∷ negate (accepted (opening 16384 (twins 34) 64))
    ∷ []

pub computed : T (every rows)
unfolding base first_line first_unit chunk_bytes chunk_words chunk_lines chunk_units chunks_in length_allowed unit_chunk unit_in word_chunk header_test role_of lines_of size_of size_for is_size directory_right first_of_word step_of block_test chosen tops capacity contents kept_in opening append_of commit_of body_of padded plan_commit log_place slot_for fields_test power_said size_allowed any_allowed
computed = tt
