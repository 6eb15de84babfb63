-- The filter of the staged keys, read and altered.
-- Assumes nothing.
use Rattle.std.specs.Prelude.{◌≡◌, true, List, ℕ, eqb, get_or}
use Rattle.spec.specs.Basics.{pick}
use Rattle.buffer.specs.Areas.{filter_place}
use Rattle.session.specs.Filter.{is_marked}

-- the filter of so many staged words: where there are none, its word is not read
abbrev pub marks_of : (buffer : List ℕ) (words : ℕ) → ℕ
marks_of buffer words = pick (eqb words 0) 0 (get_or buffer filter_place 0)

-- one key more than in the word w
pub record MarkedWith (w next key : ℕ) : Type 0 where
  pub key' : is_marked next key ≡ true
  pub others : (k : ℕ) → is_marked w k ≡ true → is_marked next k ≡ true
