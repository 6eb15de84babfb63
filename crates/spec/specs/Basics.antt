-- Tests and small list functions that the other definitions are written with.
-- Assumes nothing.
use Rattle.std.specs.Prelude.{Bool, true, false, List, [], ◌∷◌, ℕ, zero, suc, eqb, leb}
use Rattle.std.proofs.Math.Option.{Option, none, some}
use Rattle.std.specs.declared.option.Option as Lent

-- A number that a call is told, or not: a formatting the numbers of station and centre, a staging the version that it
-- names.
abbrev pub Given : Type 0
Given = Lent.Option ℕ

abbrev pub pick : {A : Type 0} → Bool → A → A → A
pick true a b = a
pick false a b = b

abbrev pub both : Bool → Bool → Bool
both true b = b
both false b = false

abbrev pub either : Bool → Bool → Bool
either true b = true
either false b = b

abbrev pub negate : Bool → Bool
negate true = false
negate false = true

abbrev pub every : List Bool → Bool
every [] = true
every (b ∷ bs) = both b (every bs)

abbrev pub larger : ℕ → ℕ → ℕ
larger a b = pick (leb a b) b a

-- the numbers from a, so many
abbrev pub up_from : ℕ → ℕ → List ℕ
up_from a zero = []
up_from a (suc n) = a ∷ up_from (suc a) n

module _ {A : Type 0} where
  abbrev pub filter : (A → Bool) → List A → List A
  filter p [] = []
  filter p (x ∷ xs) = pick (p x) (x ∷ filter p xs) (filter p xs)

  abbrev pub first : List A → Option A
  first [] = none
  first (x ∷ xs) = some x

  abbrev pub is_some : Option A → Bool
  is_some none = false
  is_some (some x) = true

  abbrev pub all : (A → Bool) → List A → Bool
  all p [] = true
  all p (x ∷ xs) = both (p x) (all p xs)

  abbrev pub any : (A → Bool) → List A → Bool
  any p [] = false
  any p (x ∷ xs) = either (p x) (any p xs)

abbrev pub is_in : ℕ → List ℕ → Bool
is_in k [] = false
is_in k (x ∷ xs) = either (eqb x k) (is_in k xs)

abbrev pub is_empty : {A : Type 0} → List A → Bool
is_empty [] = true
is_empty (x ∷ xs) = false

abbrev pub same_list : List ℕ → List ℕ → Bool
same_list [] [] = true
same_list [] (y ∷ ys) = false
same_list (x ∷ xs) [] = false
same_list (x ∷ xs) (y ∷ ys) = both (eqb x y) (same_list xs ys)

-- the numbers of a list, each once
abbrev pub adding : ℕ → List ℕ → List ℕ
adding k ks = pick (is_in k ks) ks (k ∷ ks)

abbrev pub distinct : List ℕ → List ℕ
distinct [] = []
distinct (k ∷ ks) = adding k (distinct ks)
