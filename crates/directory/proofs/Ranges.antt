-- The lists of the definitions, as the library's chains of iterators speak of them.
-- Assumes nothing.
use Rattle.std.proofs.Common.{◌≡◌, refl, sym, ap, ◌∙◌, ℕ, zero, suc, Bool, true, false, cond, List, [], ◌∷◌, add-one}
use Rattle.std.specs.Prelude.{Option, filter, find}
use Rattle.std.specs.List.{range_with_len}
use Rattle.std.specs.Option.{option_map}
use Rattle.std.proofs.lemmas.Iterator.Adapters.{option_map_id}
use Rattle.spec.specs.Basics.{pick, up_from}
use Rattle.spec.specs.Basics as B

pub up_from-range : (a n : ℕ) → range_with_len a n ≡ up_from a n
up_from-range a zero = refl
up_from-range a (suc n) = rw (add-one a) (ap (λ (xs : List ℕ). a ∷ xs) (up_from-range (suc a) n))

pub filter_same : {A : Type 0} (test : A → Bool) (xs : List A) → filter test xs ≡ B.filter test xs
filter_same test [] = refl
filter_same {A} test (x ∷ xs) = rw (filter_same test xs) (go (test x))
  where
    ys : List A
    ys = B.filter test xs

    go : (b : Bool) → cond b (x ∷ ys) ys ≡ pick b (x ∷ ys) ys
    go true = refl
    go false = refl

pub filter_up : (test : ℕ → Bool) (a n : ℕ) → filter test (range_with_len a n) ≡ B.filter test (up_from a n)
filter_up test a n = filter_same test (range_with_len a n) ∙ ap (B.filter test) (up_from-range a n)

-- what is found of the numbers from a, so many
pub found_up : (test : ℕ → Bool) (a n : ℕ) (r : Option ℕ) → option_map (λ x. x) r ≡ find test (range_with_len a n) → r ≡ find test (up_from a n)
found_up test a n r e = sym (option_map_id r) ∙ e ∙ ap (find test) (up_from-range a n)
