-- A loop that looks for the first number that a test takes, and stops when so many are seen: found only if there are
-- that many.
-- Assumes nothing.
use mathlib.Core.Path.{◌≡◌, refl, sym, ◌∙◌, ap}
use mathlib.Core.Bool.{Bool, true, false}
use mathlib.Core.Option.{none}
use mathlib.Core.Option as maybe
use mathlib.Core.List.{List, [], ◌∷◌, ◌++◌, append-nil}
use Prim.Native.Nat.{ℕ, suc, ◌+◌, ◌-◌, ◌≤◌, ◌<◌}
use native.Mathlib.Omega.{arith}
use lib.Dec.{leb}
use lib.ListN.{length, length-append}
use borrow.Author.Tests.{le-leb, lt-leb}
use Rattle.std.specs.Prelude.{Option, Some, None}
use Rattle.std.specs.Option.{option_or}
use Rattle.spec.specs.Basics.{pick, up_from, filter, first}
use Rattle.theory_base.proofs.Lists.{pick_same}
use Rattle.directory.specs.Found.{found_of}
use Rattle.directory.proofs.Search.{taken, taken-before, taken-part, taken_more, taken-fewer}

-- the first of a list, if it has so many members
abbrev pub if_several : ℕ → List ℕ → maybe.Option ℕ
if_several needed xs = pick (leb needed (length xs)) (first xs) none

module _ (test : ℕ → Bool) (a : ℕ) where
  -- so many below c, and the first of them
  pub record Counted (c : ℕ) (head : Option ℕ) (seen : ℕ) : Type 0 where
    pub count : seen ≡ length (taken test a c)
    pub head-is : head ≡ found_of (first (taken test a c))

  pub counted-behind : (c : ℕ) → ((d : ℕ) → a ≤ d → d < c → test d ≡ false) → Counted c None 0
  counted-behind c before =
      let e = taken-before test a c (λ d u l. before d l u) in
      record { count = sym (ap length e); head-is = sym (ap (λ (xs : List ℕ). found_of (first xs)) e) }

  pub counted_none : (c : ℕ) (head : Option ℕ) (seen : ℕ) → a ≤ c → test c ≡ false → Counted c head seen → Counted (c + 1) head seen
  counted_none c head seen l h s =
      let m : taken test a (c + 1) ≡ taken test a c = taken_more test a c false l h ∙ append-nil (taken test a c) in
      record { count = s.count ∙ sym (ap length m); head-is = s.head-is ∙ sym (ap (λ (xs : List ℕ). found_of (first xs)) m) }

  -- one more, which is the first where there was none
  pub counted-one : (c : ℕ) (head : Option ℕ) (seen : ℕ) → a ≤ c → test c ≡ true → Counted c head seen → Counted (c + 1) (option_or head (Some c)) (seen + 1)
  counted-one c head seen l h s =
      let xs = taken test a c in
      let m : taken test a (c + 1) ≡ xs ++ (c ∷ []) = taken_more test a c true l h in
      let k : length (taken test a (c + 1)) ≡ length xs + 1 = ap length m ∙ length-append xs (c ∷ []) in
      let n : seen ≡ length xs = s.count in
      record { count = omega arith; head-is = ap (λ (o : Option ℕ). option_or o (Some c)) s.head-is ∙ go xs ∙ sym (ap (λ (l : List ℕ). found_of (first l)) m) }
    where
      go : (xs : List ℕ) → option_or (found_of (first xs)) (Some c) ≡ found_of (first (xs ++ (c ∷ [])))
      go [] = refl
      go (x ∷ xs) = refl

  -- the end of the search: enough are seen, or all are seen and they are too few
  pub several-here : (needed c n : ℕ) (head : Option ℕ) (seen : ℕ) → a ≤ c → c ≤ n → 1 ≤ seen → needed ≤ seen → Counted c head seen → head ≡ found_of (if_several needed (taken test a n))
  several-here needed c n head seen l u one enough s =
      s.head-is ∙ ap found_of (go (taken test a c) s.count) ∙ sym (ap (λ (xs : List ℕ). found_of (if_several needed xs)) (taken-part test a c n l u))
    where
      go : (xs : List ℕ) → seen ≡ length xs → first xs ≡ if_several needed (xs ++ filter test (up_from c (n - c)))
      go [] e = absurd (omega arith)
      go (x ∷ xs) e = let m = length-append (x ∷ xs) (filter test (up_from c (n - c))) in rw (le-leb needed (length ((x ∷ xs) ++ filter test (up_from c (n - c)))) (omega arith))

  pub several-nowhere : (needed c n : ℕ) (head : Option ℕ) (seen : ℕ) → a ≤ c → n ≤ c → (1 ≤ seen → seen < needed) → Counted c head seen → None ≡ found_of (if_several needed (taken test a n))
  several-nowhere needed c n head seen l u few s = sym (ap found_of (go (taken test a n) (taken-fewer test a n c l u)))
    where
      go : (xs : List ℕ) → length xs ≤ length (taken test a c) → if_several needed xs ≡ none
      go [] h = pick_same (leb needed 0) none
      go (x ∷ xs) h = let k = s.count in rw (lt-leb needed (suc (length xs)) (let f = few (omega arith) in omega arith))
