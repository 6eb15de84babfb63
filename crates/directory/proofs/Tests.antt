-- What the code shows of the directory, word by word.
-- Assumes nothing.
use mathlib.Core.Path.{◌≡◌, refl, ◌∙◌}
use mathlib.Core.Bool.{Bool, true, false, not, cond}
use mathlib.Core.List.{List, [], ◌∷◌}
use Rattle.std.specs.Prelude.{Option, Some, is_none, find}
use Rattle.std.specs.List.{range_with_len}
use Rattle.std.specs.Option.{option_map}
use Prim.Native.Nat.{ℕ, zero, suc, ◌+◌, ◌≤◌, ◌<◌}
use native.Mathlib.Omega.{arith}
use lib.Dec.{eqb, leb}
use lib.ListN.{get_or, drop}
use borrow.Author.Tests.{le-leb, lt-leb, lt-ltb, le-ltb}
use Rattle.spec.specs.Basics.{both, up_from}
use Rattle.spec.specs.Directory.{is_role, role_of, directory_right, directory_from}
use Rattle.spec.specs.Opening.{directory_test}
use Rattle.directory.specs.Tests.{word_right, directory_fault}
use Rattle.directory.proofs.Ranges.{found_up}

-- one word, of a chunk of the image, and of another
module _ (p n c w : ℕ) where
  pub word-inside : 1 ≤ c → c < n → directory_right p n c w ≡ is_role (role_of p w)
  unfolding directory_right
  word-inside l h = rw (le-leb 1 c l, lt-ltb c n h)

  pub word-past : n ≤ c → directory_right p n c w ≡ eqb w 0
  unfolding directory_right
  word-past h = rw (le-ltb c n h, both-none (leb 1 c))
    where
      both-none : (b : Bool) → both b false ≡ false
      both-none true = refl
      both-none false = refl

  pub word-zero : c < 1 → directory_right p n c w ≡ eqb w 0
  unfolding directory_right
  word-zero h = rw (lt-leb 1 c h)

-- the directory's test

step : (p n i c k : ℕ) (ws : List ℕ) → directory_from p n (suc i) c (drop k ws) ≡ both (directory_right p n c (get_or ws k 0)) (directory_from p n i (suc c) (drop (suc k) ws))
step p n i c zero [] = refl
step p n i c zero (w ∷ ws) = refl
step p n i c (suc k) [] = refl
step p n i c (suc k) (w ∷ ws) = step p n i c k ws

from-test : (p n i c : ℕ) (ws : List ℕ) → directory_from p n i c (drop (8 + c) ws) ≡ is_none (find (λ c. not (word_right p n ws c)) (up_from c i))
from-test p n zero c ws = refl
from-test p n (suc i) c ws =
    let k : suc (8 + c) ≡ 8 + suc c = omega arith in
    step p n i c (8 + c) ws ∙ rw k (go (word_right p n ws c) (from-test p n i (suc c) ws))
  where
    go : (b : Bool) → directory_from p n i (suc c) (drop (8 + suc c) ws) ≡ is_none (find (λ c. not (word_right p n ws c)) (up_from (suc c) i))
        → both b (directory_from p n i (suc c) (drop (8 + suc c) ws)) ≡ is_none (cond (not b) (Some c) (find (λ c. not (word_right p n ws c)) (up_from (suc c) i)))
    go true h = h
    go false h = refl

-- every word is right where none is found to be wrong
pub directory-tested : (p n : ℕ) (ws : List ℕ) → directory_test p n ws ≡ is_none (directory_fault p n ws)
unfolding directory_fault
directory-tested p n ws = from-test p n 504 0 ws

-- what the search finds
pub fault-found : (p n : ℕ) (ws : List ℕ) (r : Option ℕ) → option_map (λ x. x) r ≡ find (λ c. not (word_right p n ws c)) (range_with_len 0 504) → r ≡ directory_fault p n ws
unfolding directory_fault
fault-found p n ws r e = found_up (λ c. not (word_right p n ws c)) 0 504 r e
