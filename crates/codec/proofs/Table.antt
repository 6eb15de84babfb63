-- A rule of a table, shown at all of its entries by one test that is computed, and a rule of all numbers below a bound.
-- Assumes nothing.
use Rattle.std.proofs.Common.{◌≡◌, ℕ, zero, suc, ◌+◌, ◌<◌, Bool, true, false, T, List, [], ◌∷◌, length, get_or, refl, sym, ◌∙◌, subst, le_of_suc-le-suc, not-suc-le-zero, add-zero, add-suc, suc-add, zero-add}
use Rattle.spec.specs.Basics.{both, all, up_from}

pub both_left : (a b : Bool) → T (both a b) → T a
both_left true b t = tt
both_left false b t = t

pub both_right : (a b : Bool) → T (both a b) → T b
both_right true b t = t
both_right false b t = absurd t

pub passed : (b : Bool) → T b → b ≡ true
passed true t = refl
passed false t = absurd t

-- the test f passes at each entry of the list and its place, counted from i
abbrev pub each_from : (ℕ → ℕ → Bool) → ℕ → List ℕ → Bool
each_from f i [] = true
each_from f i (x ∷ xs) = both (f i x) (each_from f (suc i) xs)

from : (f : ℕ → ℕ → Bool) (xs : List ℕ) (i : ℕ) → T (each_from f i xs) → (k : ℕ) → k < length xs → T (f (i + k) (get_or xs k 0))
from f [] i t k h = absurd (not-suc-le-zero h)
from f (x ∷ xs) i t zero h = subst (λ (m : ℕ). T (f m x)) (sym (add-zero i)) (both_left (f i x) (each_from f (suc i) xs) t)
from f (x ∷ xs) i t (suc k) h =
    subst (λ (m : ℕ). T (f m (get_or xs k 0))) (suc-add i k ∙ sym (add-suc i k))
    (from f xs (suc i) (both_right (f i x) (each_from f (suc i) xs) t) k (le_of_suc-le-suc h))

pub at : (f : ℕ → ℕ → Bool) (xs : List ℕ) → T (each_from f 0 xs) → (k : ℕ) → k < length xs → T (f k (get_or xs k 0))
at f xs t k h = subst (λ (m : ℕ). T (f m (get_or xs k 0))) (zero-add k) (from f xs 0 t k h)

-- the test f passes at each number from i, so many
up_to : (f : ℕ → Bool) (n i : ℕ) → T (all f (up_from i n)) → (k : ℕ) → k < n → T (f (i + k))
up_to f zero i t k h = absurd (not-suc-le-zero h)
up_to f (suc n) i t zero h = subst (λ (m : ℕ). T (f m)) (sym (add-zero i)) (both_left (f i) (all f (up_from (suc i) n)) t)
up_to f (suc n) i t (suc k) h =
    subst (λ (m : ℕ). T (f m)) (suc-add i k ∙ sym (add-suc i k))
    (up_to f n (suc i) (both_right (f i) (all f (up_from (suc i) n)) t) k (le_of_suc-le-suc h))

pub below : (f : ℕ → Bool) (n : ℕ) → T (all f (up_from 0 n)) → (k : ℕ) → k < n → T (f k)
below f n t k h = subst (λ (m : ℕ). T (f m)) (zero-add k) (up_to f n 0 t k h)
