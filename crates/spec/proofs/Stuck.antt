-- Why the host's rule of `Unstuck` is needed: a register that is stuck for good, computed. Four chunks and values of
-- 256 bytes, 15 to a chunk: a power cut in the cleaning of chunk 1 leaves no free chunk; then chunk 3, where the
-- copies are, has nothing to copy and could be freed. A commit that is begun first goes behind the copies, and from
-- then on every commit and every cleaning is refused with 13.
-- Assumes nothing.
use mathlib.Core.Bool.{Bool, false}
use mathlib.Core.Option.{Option, none, some}
use mathlib.Core.List.{List, [], ◌∷◌, ◌++◌}
use Prim.Native.Nat.{ℕ, zero, suc, ◌+◌, ◌*◌}
use lib.Dec.{T, eqb}
use lib.ListN.{length, replicate}
use Rattle.spec.specs.Basics.{every}
use Rattle.spec.specs.Places.{base_power, base, first_line, first_unit, chunk_bytes, chunk_words, chunk_lines, chunk_units, chunks_in, length_allowed, size_allowed, any_allowed, unit_chunk, unit_in, word_chunk}
use Rattle.spec.specs.Header.{header_test, fields_test, power_said}
use Rattle.spec.specs.Directory.{role_of, lines_of, size_of, size_for, is_size, directory_right, free_chunks}
use Rattle.spec.specs.Log.{Entry, first_of_word, step_of}
use Rattle.spec.specs.Blocks.{block_test}
use Rattle.spec.specs.Contents.{chosen, tops, capacity, entries_in, kept_in}
use Rattle.spec.specs.Opening.{opening}
use Rattle.spec.specs.Actions.{append_of, commit_of, body_of, padded}
use Rattle.spec.specs.Reports.{number}
use Rattle.spec.specs.Plans.{Plan, Refuse, Begin, entry, plan_commit, plan_clean, chosen_chunk, log_place}
use Rattle.spec.specs.declared.Refusal.TheVariants as N
use Rattle.spec.proofs.Slips.{accepted, begun_actions}

-- puts of version v and 256 zero bytes, of so many keys from k on: their words, and as staged items
abbrev puts : ℕ → ℕ → ℕ → List ℕ
puts v k zero = []
puts v k (suc j) = (4294967297 + 16 * v) ∷ k ∷ (replicate 32 0 ++ puts v (suc k) j)

abbrev items : ℕ → ℕ → List Entry
items k zero = []
items k (suc j) = entry 1 0 1 256 k (replicate 32 0) ∷ items (suc k) j

-- chunks 1 and 2 are full: keys 1 to 15, of which 8 to 15 are printed anew in chunk 2, and keys 16 to 22
abbrev image : ℕ → List ℕ → List ℕ
image three third =
    1 ∷ 4 ∷ 0 ∷ 0 ∷ 0 ∷ 0 ∷ 0 ∷ 18446744073709551611 ∷ 0 ∷ 16385 ∷ 16385 ∷ three
    ∷ (replicate 500 0 ++ (puts 1 1 15 ++ (0 ∷ 0 ∷ (puts 2 8 8 ++ (puts 1 16 7 ++ (0 ∷ 0 ∷ third))))))

-- before the cleaning of chunk 1; after the cut; with eight more labels
abbrev before : List ℕ
before = image 0 (replicate 512 3)

abbrev after_cut : List ℕ
after_cut = image 7681 (puts 1 1 7 ++ (0 ∷ 0 ∷ replicate 272 3))

abbrev stuck : List ℕ
stuck = image 16385 (puts 1 1 7 ++ (0 ∷ 0 ∷ puts 1 23 8))

abbrev cleaning : List ℕ → ℕ → Plan
cleaning ws c = plan_clean base_power 4 ws (entries_in base_power 4 ws) [] c

abbrev no_space : Plan → Bool
no_space (Refuse n) = eqb (number n) (number N.NoSpace)
no_space (Begin its task acts) = false

abbrev place_of : Option ℕ → ℕ
place_of none = 0
place_of (some c) = c

abbrev named : List ℕ → ℕ
named ws = place_of (chosen_chunk base_power 4 ws (entries_in base_power 4 ws))

-- the cleaning of chunk 1: 7 entries go to chunk 3, 30 lines, and chunk 1 is freed: 9 · 30 + 4 + 3 actions
pub cleaned : T (every (eqb (named before) 1 ∷ eqb (length (begun_actions (cleaning before 1))) 277 ∷ eqb (place_of (log_place base_power 4 before 30 1 1)) 3 ∷ []))
unfolding base first_line first_unit chunk_bytes chunk_words chunk_lines chunk_units chunks_in length_allowed size_allowed any_allowed unit_chunk unit_in word_chunk header_test fields_test power_said role_of lines_of size_of size_for is_size directory_right first_of_word step_of block_test chosen tops capacity kept_in opening append_of commit_of body_of padded plan_commit plan_clean chosen_chunk log_place
cleaned = tt

-- cut before the freeing: the image is accepted, no chunk is free, and choosing names chunk 3, which is only freed
pub opens : T (accepted (opening 16384 after_cut 400))
unfolding base first_line first_unit chunk_bytes chunk_words chunk_lines chunk_units chunks_in length_allowed size_allowed any_allowed unit_chunk unit_in word_chunk header_test fields_test power_said role_of lines_of size_of size_for is_size directory_right first_of_word step_of block_test chosen tops capacity kept_in opening append_of commit_of body_of padded plan_commit plan_clean chosen_chunk log_place
opens = tt

pub freeable : T (every (eqb (length (free_chunks base_power 4 after_cut)) 0 ∷ eqb (named after_cut) 3 ∷ eqb (length (begun_actions (cleaning after_cut 3))) 3 ∷ []))
unfolding base first_line first_unit chunk_bytes chunk_words chunk_lines chunk_units chunks_in length_allowed size_allowed any_allowed unit_chunk unit_in word_chunk header_test fields_test power_said role_of lines_of size_of size_for is_size directory_right first_of_word step_of block_test chosen tops capacity kept_in opening append_of commit_of body_of padded plan_commit plan_clean chosen_chunk log_place
freeable = tt

-- a commit of eight labels, 34 lines, that is begun first goes behind the copies
pub goes-behind : T (every (eqb (length (begun_actions (plan_commit base_power 4 after_cut (items 23 8)))) 310 ∷ eqb (place_of (log_place base_power 4 after_cut 34 0 3)) 3 ∷ []))
unfolding base first_line first_unit chunk_bytes chunk_words chunk_lines chunk_units chunks_in length_allowed size_allowed any_allowed unit_chunk unit_in word_chunk header_test fields_test power_said role_of lines_of size_of size_for is_size directory_right first_of_word step_of block_test chosen tops capacity kept_in opening append_of commit_of body_of padded plan_commit plan_clean chosen_chunk log_place
goes-behind = tt

-- and then nothing goes any more: no put, no delete, no cleaning
pub opens-stuck : T (accepted (opening 16384 stuck 400))
unfolding base first_line first_unit chunk_bytes chunk_words chunk_lines chunk_units chunks_in length_allowed size_allowed any_allowed unit_chunk unit_in word_chunk header_test fields_test power_said role_of lines_of size_of size_for is_size directory_right first_of_word step_of block_test chosen tops capacity kept_in opening append_of commit_of body_of padded plan_commit plan_clean chosen_chunk log_place
opens-stuck = tt

pub no-commit : T (every (no_space (plan_commit base_power 4 stuck (items 31 1)) ∷ no_space (plan_commit base_power 4 stuck (entry 2 0 2 0 1 [] ∷ [])) ∷ []))
unfolding base first_line first_unit chunk_bytes chunk_words chunk_lines chunk_units chunks_in length_allowed size_allowed any_allowed unit_chunk unit_in word_chunk header_test fields_test power_said role_of lines_of size_of size_for is_size directory_right first_of_word step_of block_test chosen tops capacity kept_in opening append_of commit_of body_of padded plan_commit plan_clean chosen_chunk log_place
no-commit = tt

pub no-cleaning : T (every (no_space (cleaning stuck 1) ∷ no_space (cleaning stuck 2) ∷ no_space (cleaning stuck 3) ∷ []))
unfolding base first_line first_unit chunk_bytes chunk_words chunk_lines chunk_units chunks_in length_allowed size_allowed any_allowed unit_chunk unit_in word_chunk header_test fields_test power_said role_of lines_of size_of size_for is_size directory_right first_of_word step_of block_test chosen tops capacity kept_in opening append_of commit_of body_of padded plan_commit plan_clean chosen_chunk log_place
no-cleaning = tt
