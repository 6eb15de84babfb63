-- The first word of the directory that is wrong.
-- Assumes nothing.
use Rattle.std.specs.Prelude.{Bool, not, List, ℕ, get_or, find, Option}
use Rattle.spec.specs.Basics.{up_from}
use Rattle.spec.specs.Places.{max_chunks, directory_word}
use Rattle.spec.specs.Directory.{directory_right}

abbrev pub word_right : ℕ → ℕ → List ℕ → ℕ → Bool
word_right p n ws c = directory_right p n c (get_or ws (directory_word c) 0)

-- the first chunk whose directory word is wrong
unfoldable pub directory_fault : ℕ → ℕ → List ℕ → Option ℕ
directory_fault p n ws = find (λ c. not (word_right p n ws c)) (up_from 0 max_chunks)
