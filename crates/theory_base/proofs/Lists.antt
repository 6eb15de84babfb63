-- The laws of tests and of lists that are searched, filtered or counted.
-- Assumes nothing.
use Rattle.std.proofs.lemmas.Bool.Decides.{nat_tests}
use mathlib.Core.Path.{◌≡◌, refl, sym, ◌∙◌, ap}
use mathlib.Core.Logic.{◌⊎◌, inl, inr}
use mathlib.Core.Bool.{Bool, true, false}
use mathlib.Core.List.{List, [], ◌∷◌, ◌++◌}
use Prim.Native.Nat.{ℕ, suc, ◌+◌, ◌≤◌}
use native.Mathlib.Omega.{arith}
use lib.Dec.{eqb}
use lib.ListN.{length, length-append}
use borrow.Author.Tests.{eqb-true, eq-eqb}
use Rattle.spec.specs.Basics.{pick, both, either, negate, every, filter, all, is_in, adding, distinct}
use Rattle.spec.specs.Medium.{Mem}

-- Tests.
pub both_l : (a b : Bool) → both a b ≡ true → a ≡ true
both_l true b h = refl
both_l false b h = h

pub both_r : (a b : Bool) → both a b ≡ true → b ≡ true
both_r true b h = h
both_r false b h = absurd (let z : ◌≡◌ {A = ℕ} 0 1 = cc in omega arith)

pub both-i : (a b : Bool) → a ≡ true → b ≡ true → both a b ≡ true
both-i true b p q = q
both-i false b p q = p

pub either-no : (a b : Bool) → either a b ≡ false → (a ≡ false) × (b ≡ false)
either-no true b h = absurd (let z : ◌≡◌ {A = ℕ} 0 1 = cc in omega arith)
either-no false b h = (refl, h)

pub either-cases : (a b : Bool) → either a b ≡ true → (a ≡ true) ⊎ (b ≡ true)
either-cases true b h = inl refl
either-cases false b h = inr h

pub either_l : (a b : Bool) → a ≡ true → either a b ≡ true
either_l true b h = refl
either_l false b h = absurd (let z : ◌≡◌ {A = ℕ} 0 1 = cc in omega arith)

pub either_r : (a b : Bool) → b ≡ true → either a b ≡ true
either_r true b h = refl
either_r false b h = h

pub not-both : (a : Bool) → a ≡ true → a ≡ false → ⊥
not-both true h k = let z : ◌≡◌ {A = ℕ} 0 1 = cc in omega arith
not-both false h k = let z : ◌≡◌ {A = ℕ} 0 1 = cc in omega arith

-- a test that is needed only where another holds
pub pick-i : (b c : Bool) → (b ≡ true → c ≡ true) → pick b c true ≡ true
pick-i true c h = h refl
pick-i false c h = refl

pub pick-e : (b c : Bool) → pick b c true ≡ true → b ≡ true → c ≡ true
pick-e true c h q = h
pick-e false c h q = absurd (let z : ◌≡◌ {A = ℕ} 0 1 = cc in omega arith)

-- a choice of equal things
pub pick_same : {A : Type 0} (b : Bool) (x : A) → pick b x x ≡ x
pick_same true x = refl
pick_same false x = refl

-- a list of tests
abbrev pub AllTrue : List Bool → Type 0
AllTrue [] = Unit {0}
AllTrue (b ∷ bs) = (b ≡ true) × AllTrue bs

pub every_true : (bs : List Bool) → every bs ≡ true → AllTrue bs
every_true [] h = tt
every_true (b ∷ bs) h = (both_l b (every bs) h, every_true bs (both_r b (every bs) h))

pub true-every : (bs : List Bool) → AllTrue bs → every bs ≡ true
true-every [] h = refl
true-every (b ∷ bs) h = both-i b (every bs) h.0 (true-every bs h.1)

-- Filters.
module _ {A : Type 0} (p : A → Bool) where
  pub filter-append : (xs ys : List A) → filter p (xs ++ ys) ≡ filter p xs ++ filter p ys
  filter-append [] ys = refl
  filter-append (x ∷ xs) ys = go (p x) (filter-append xs ys)
    where
      go : (b : Bool) → filter p (xs ++ ys) ≡ filter p xs ++ filter p ys → pick b (x ∷ filter p (xs ++ ys)) (filter p (xs ++ ys)) ≡ pick b (x ∷ filter p xs) (filter p xs) ++ filter p ys
      go true e = ap (λ (l : List A). x ∷ l) e
      go false e = e

  pub filter-all : (xs : List A) → all p xs ≡ true → filter p xs ≡ xs
  filter-all [] h = refl
  filter-all (x ∷ xs) h = rw (both_l (p x) (all p xs) h) (ap (λ (l : List A). x ∷ l) (filter-all xs (both_r (p x) (all p xs) h)))

  pub filter_none : (xs : List A) → all (λ x. negate (p x)) xs ≡ true → filter p xs ≡ []
  filter_none [] h = refl
  filter_none (x ∷ xs) h = go (p x) (both_l (negate (p x)) (all (λ y. negate (p y)) xs) h) (filter_none xs (both_r (negate (p x)) (all (λ y. negate (p y)) xs) h))
    where
      go : (b : Bool) → negate b ≡ true → filter p xs ≡ [] → pick b (x ∷ filter p xs) (filter p xs) ≡ []
      go true n e = absurd (let z : ◌≡◌ {A = ℕ} 0 1 = cc in omega arith)
      go false n e = e

  pub filter-length : (xs : List A) → length (filter p xs) ≤ length xs
  filter-length [] = omega arith
  filter-length (x ∷ xs) = go (p x) (filter-length xs)
    where
      go : (b : Bool) → length (filter p xs) ≤ length xs → length (pick b (x ∷ filter p xs) (filter p xs)) ≤ suc (length xs)
      go true h = omega arith
      go false h = omega arith

-- Members of a list of numbers.
pub is_in-mem : (k : ℕ) (xs : List ℕ) → is_in k xs ≡ true → Mem k xs
is_in-mem k [] h = absurd (let z : ◌≡◌ {A = ℕ} 0 1 = cc in omega arith)
is_in-mem k (x ∷ xs) h = go (either-cases (eqb x k) (is_in k xs) h) (is_in-mem k xs)
  where
    go : (eqb x k ≡ true) ⊎ (is_in k xs ≡ true) → (is_in k xs ≡ true → Mem k xs) → Mem k (x ∷ xs)
    go (inl e) rec = inl (sym (eqb-true x k e))
    go (inr m) rec = inr (rec m)

pub mem-is_in : (k : ℕ) (xs : List ℕ) → Mem k xs → is_in k xs ≡ true
mem-is_in k [] m = absurd m
mem-is_in k (x ∷ xs) (inl e) = either_l (eqb x k) (is_in k xs) (eq-eqb x k (sym e))
mem-is_in k (x ∷ xs) (inr m) = either_r (eqb x k) (is_in k xs) (mem-is_in k xs m)

pub number-l : (k : ℕ) (xs ys : List ℕ) → Mem k xs → Mem k (xs ++ ys)
number-l k [] ys m = absurd m
number-l k (x ∷ xs) ys (inl e) = inl e
number-l k (x ∷ xs) ys (inr m) = inr (number-l k xs ys m)

pub number-r : (k : ℕ) (xs ys : List ℕ) → Mem k ys → Mem k (xs ++ ys)
number-r k [] ys m = m
number-r k (x ∷ xs) ys m = inr (number-r k xs ys m)

pub number-cases : (k : ℕ) (xs ys : List ℕ) → Mem k (xs ++ ys) → Mem k xs ⊎ Mem k ys
number-cases k [] ys m = inr m
number-cases k (x ∷ xs) ys (inl e) = inl (inl e)
number-cases k (x ∷ xs) ys (inr m) = elim (number-cases k xs ys m) [ inl a ↦ inl (inr a) | inr b ↦ inr b ]

-- The numbers of a list, each once.
pub adding-is : (k j : ℕ) (ks : List ℕ) → is_in j (adding k ks) ≡ either (eqb k j) (is_in j ks)
adding-is k j ks = grind (arith, nat_tests)

pub distinct-is : (j : ℕ) (ks : List ℕ) → is_in j (distinct ks) ≡ is_in j ks
distinct-is j [] = refl
distinct-is j (k ∷ ks) = adding-is k j (distinct ks) ∙ ap (either (eqb k j)) (distinct-is j ks)

pub mem-distinct : (j : ℕ) (ks : List ℕ) → Mem j ks → Mem j (distinct ks)
mem-distinct j ks m = is_in-mem j (distinct ks) (distinct-is j ks ∙ mem-is_in j ks m)

pub distinct-mem : (j : ℕ) (ks : List ℕ) → Mem j (distinct ks) → Mem j ks
distinct-mem j ks m = is_in-mem j ks (sym (distinct-is j ks) ∙ mem-is_in j (distinct ks) m)

abbrev pub Once : List ℕ → Type 0
Once [] = Unit {0}
Once (k ∷ ks) = (Mem k ks → ⊥) × Once ks

pub distinct-once : (ks : List ℕ) → Once (distinct ks)
distinct-once [] = tt
distinct-once (k ∷ ks) = go (is_in k (distinct ks)) refl (distinct-once ks)
  where
    go : (b : Bool) → is_in k (distinct ks) ≡ b → Once (distinct ks) → Once (pick b (distinct ks) (k ∷ distinct ks))
    go true h o = o
    go false h o = (λ m. not-both (is_in k (distinct ks)) (mem-is_in k (distinct ks) m) h, o)

-- one more number, known or new
pub distinct-old : (k : ℕ) (ks : List ℕ) → is_in k ks ≡ true → distinct (k ∷ ks) ≡ distinct ks
distinct-old k ks h = rw (distinct-is k ks ∙ h)

pub distinct-new : (k : ℕ) (ks : List ℕ) → is_in k ks ≡ false → distinct (k ∷ ks) ≡ k ∷ distinct ks
distinct-new k ks h = rw (distinct-is k ks ∙ h)

-- Numbers that each stand once, all of them in another list, are no more than that list is long.
record Parted (k : ℕ) (ks : List ℕ) : Type 0 where
  left : List ℕ
  right : List ℕ
  whole : ks ≡ left ++ k ∷ right

part : (k : ℕ) (ks : List ℕ) → Mem k ks → Parted k ks
part k [] m = absurd m
part k (x ∷ ks) (inl e) = record { left = []; right = ks; whole = ap (λ (y : ℕ). y ∷ ks) (sym e) }
part k (x ∷ ks) (inr m) = let q = part k ks m in record { left = x ∷ q.left; right = q.right; whole = ap (λ (l : List ℕ). x ∷ l) q.whole }

without : (j k : ℕ) (xs ys : List ℕ) → (j ≡ k → ⊥) → Mem j (xs ++ k ∷ ys) → Mem j (xs ++ ys)
without j k xs ys n m = go (number-cases j xs (k ∷ ys) m)
  where
    go : Mem j xs ⊎ Mem j (k ∷ ys) → Mem j (xs ++ ys)
    go (inl a) = number-l j xs ys a
    go (inr (inl e)) = absurd (n e)
    go (inr (inr b)) = number-r j xs ys b

once-fewer : (ks js : List ℕ) → Once ks → ((k : ℕ) → Mem k ks → Mem k js) → length ks ≤ length js
once-fewer [] js o h = omega arith
once-fewer (k ∷ ks) js o h =
    let q = part k js (h k (inl refl)) in
    let rest : (j : ℕ) → Mem j ks → Mem j (q.left ++ q.right) =
    λ j m. without j k q.left q.right (λ e. o.0 (rw e at m)) (rw q.whole at (h j (inr m))) in
    let l = once-fewer ks (q.left ++ q.right) o.1 rest in
    let a : length js ≡ length q.left + suc (length q.right) = ap length q.whole ∙ length-append q.left (k ∷ q.right) in
    let b : length (q.left ++ q.right) ≡ length q.left + length q.right = length-append q.left q.right in
    omega arith

pub distinct-fewer : (ks js : List ℕ) → ((k : ℕ) → Mem k ks → Mem k js) → length (distinct ks) ≤ length (distinct js)
distinct-fewer ks js h = once-fewer (distinct ks) (distinct js) (distinct-once ks) (λ k m. mem-distinct k js (h k (distinct-mem k ks m)))

pub distinct-length : (ks : List ℕ) → length (distinct ks) ≤ length ks
distinct-length ks = once-fewer (distinct ks) ks (distinct-once ks) (λ k m. distinct-mem k ks m)

pub distinct-equal : (ks js : List ℕ) → ((k : ℕ) → Mem k ks → Mem k js) → ((k : ℕ) → Mem k js → Mem k ks) → length (distinct ks) ≡ length (distinct js)
distinct-equal ks js h g = let a = distinct-fewer ks js h in let b = distinct-fewer js ks g in omega arith
