-- The definitions computed on a small image: which entries there are, which one is chosen, what stands in the words.
-- Assumes nothing.
use Rattle.std.proofs.Common.{◌≡◌, ℕ, ◌+◌, ◌*◌, List, [], ◌∷◌, ◌++◌, drop, set, replicate, refl}
use Rattle.spec.specs.Places.{base, chunk_words, chunk_lines}
use Rattle.spec.specs.Directory.{lines_of, role_of}
use Rattle.spec.specs.Log.{step_of, first_of_word}
use Rattle.spec.specs.Contents.{chosen, tops}
use Rattle.inspect.specs.KeyEntries.{entries_from, spelt_all, fitting}

abbrev first : (op placement version field : ℕ) → ℕ
first op placement version field = op + 4 * placement + 16 * version + 16777216 * field

abbrev log : ℕ → ℕ
log lines = 1 + 256 * lines

-- Three chunks; chunks 1 and 2 have one log line each, and no other word is read.
--
--   word 512  | put 7, version 1, empty
--   word 514  | put 9, version 4, empty
--   word 516  | put 7, version 2, in the block at unit 32
--   word 518  | delete 7, version 3
--   word 1024 | delete 7, version 3: a copy
--   word 1026 | put 7, version 2, five bytes
abbrev image : List ℕ
image =
    replicate 9 0 ++ (log 1 ∷ log 1
    ∷ (replicate 501 0
    ++ (first 1 0 1 0 ∷ 7 ∷ first 1 0 4 0 ∷ 9 ∷ first 1 1 2 32 ∷ 7 ∷ first 2 0 3 0 ∷ 7
    ∷ (replicate 504 3
    ++ (first 2 0 3 0 ∷ 7 ∷ first 1 0 2 5 ∷ 7 ∷ 478560413032 ∷ 0 ∷ 0 ∷ 0 ∷ replicate 504 3)))))

-- place, op, version, block, field, chosen
abbrev seven : List ℕ
seven =
    512 ∷ 1 ∷ 1 ∷ 0 ∷ 0 ∷ 0
    ∷ 516 ∷ 1 ∷ 2 ∷ 1 ∷ 32 ∷ 0
    ∷ 518 ∷ 2 ∷ 3 ∷ 0 ∷ 0 ∷ 1
    ∷ 1024 ∷ 2 ∷ 3 ∷ 0 ∷ 0 ∷ 0
    ∷ 1026 ∷ 1 ∷ 2 ∷ 0 ∷ 5 ∷ 0
    ∷ []

all-of-seven : spelt_all (entries_from 12 3 image 7 0) ≡ seven
unfolding entries_from chosen tops step_of first_of_word lines_of role_of base chunk_words chunk_lines
all-of-seven = refl

-- at the word itself, and behind it
from-its-place : spelt_all (entries_from 12 3 image 7 516) ≡ drop 6 seven
unfolding entries_from chosen tops step_of first_of_word lines_of role_of base chunk_words chunk_lines
from-its-place = refl

from-behind : spelt_all (entries_from 12 3 image 7 517) ≡ drop 12 seven
unfolding entries_from chosen tops step_of first_of_word lines_of role_of base chunk_words chunk_lines
from-behind = refl

past-the-last : entries_from 12 3 image 7 1027 ≡ []
unfolding entries_from chosen tops step_of first_of_word lines_of role_of base chunk_words chunk_lines
past-the-last = refl

another-key : spelt_all (entries_from 12 3 image 9 0) ≡ 514 ∷ 1 ∷ 4 ∷ 0 ∷ 0 ∷ 1 ∷ []
unfolding entries_from chosen tops step_of first_of_word lines_of role_of base chunk_words chunk_lines
another-key = refl

-- a wrong entry anywhere in the log
none-of-a-wrong-log : entries_from 12 3 (set image 1026 3) 7 0 ≡ []
unfolding entries_from chosen tops step_of first_of_word lines_of role_of base chunk_words chunk_lines
none-of-a-wrong-log = refl

-- whole entries alone
as-far-as-they-fit : fitting 17 (entries_from 12 3 image 7 0) ≡ 512 ∷ 1 ∷ 1 ∷ 0 ∷ 0 ∷ 0 ∷ 516 ∷ 1 ∷ 2 ∷ 1 ∷ 32 ∷ 0 ∷ []
unfolding entries_from chosen tops step_of first_of_word lines_of role_of base chunk_words chunk_lines
as-far-as-they-fit = refl
