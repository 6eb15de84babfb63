-- The number of known and staged keys, with one more item.
-- Assumes nothing.
use mathlib.Core.Path.{◌≡◌, refl, sym, ◌∙◌, ap}
use mathlib.Core.Logic.{inl, inr, ⊎_elim}
use mathlib.Core.Bool.{Bool, true, false}
use mathlib.Core.List.{List, [], ◌∷◌, ◌++◌}
use Prim.Native.Nat.{ℕ, ◌+◌}
use native.Mathlib.Omega.{arith}
use lib.Dec.{eqb, leb}
use lib.ListN.{length}
use Rattle.spec.specs.Basics.{pick, either, is_in, distinct}
use Rattle.spec.specs.Medium.{Mem}
use Rattle.spec.specs.Log.{Entry}
use Rattle.spec.specs.Contents.{known, capacity}
use Rattle.spec.specs.Plans.{fits_keys}
use Rattle.theory_base.proofs.Lists.{number-l, number-r, number-cases, distinct-is, distinct-old, distinct-new, distinct-equal}
use Rattle.theory_log.proofs.Keys.{keys-known}
use Rattle.session.specs.Fits.{key_list}

-- a key that is staged or known
abbrev pub is_old : ℕ → List Entry → List Entry → Bool
is_old k es items = either (is_in k (key_list items)) (known k es)

-- the staged keys not known, with one more key
abbrev pub fresh_with : Bool → ℕ → ℕ
fresh_with old fresh = pick old fresh (fresh + 1)

is-in-append : (k : ℕ) (xs ys : List ℕ) → is_in k (xs ++ ys) ≡ either (is_in k xs) (is_in k ys)
is-in-append k [] ys = refl
is-in-append k (x ∷ xs) ys = ap (either (eqb x k)) (is-in-append k xs ys) ∙ go (eqb x k)
  where
    go : (t : Bool) → either t (either (is_in k xs) (is_in k ys)) ≡ either (either t (is_in k xs)) (is_in k ys)
    go true = refl
    go false = refl

old-in : (k : ℕ) (es items : List Entry) → is_in k (key_list items ++ key_list es) ≡ is_old k es items
old-in k es items = is-in-append k (key_list items) (key_list es) ∙ ap (either (is_in k (key_list items))) (sym (distinct-is k (key_list es)) ∙ keys-known k es)

keys-append : (items : List Entry) (e : Entry) → key_list (items ++ (e ∷ [])) ≡ key_list items ++ (e.key ∷ [])
keys-append [] e = refl
keys-append (x ∷ items) e = ap (λ (l : List ℕ). x.key ∷ l) (keys-append items e)

module _ (keys fresh : ℕ) (es items : List Entry) (counted : keys + fresh ≡ length (distinct (key_list items ++ key_list es))) where
  with-key : (k : ℕ) → length (distinct (k ∷ (key_list items ++ key_list es))) ≡ keys + fresh_with (is_old k es items) fresh
  with-key k = go (is_old k es items) (old-in k es items)
    where
      go : (t : Bool) → is_in k (key_list items ++ key_list es) ≡ t → length (distinct (k ∷ (key_list items ++ key_list es))) ≡ keys + fresh_with t fresh
      go true h = ap length (distinct-old k (key_list items ++ key_list es) h) ∙ sym counted
      go false h = let n = ap length (distinct-new k (key_list items ++ key_list es) h) in omega arith

  -- whether one more key has room in the table
  pub fits-keys : (table k : ℕ) → fits_keys table es items k ≡ leb (keys + fresh_with (is_old k es items) fresh) (capacity table)
  fits-keys table k = ap (λ (n : ℕ). leb n (capacity table)) (with-key k)

  -- the count with one more item
  pub keys-more : (e : Entry) → keys + fresh_with (is_old e.key es items) fresh ≡ length (distinct (key_list (items ++ (e ∷ [])) ++ key_list es))
  keys-more e =
      sym (with-key e.key) ∙ distinct-equal (e.key ∷ (xs ++ ys)) ((xs ++ (e.key ∷ [])) ++ ys) to back
      ∙ ap (λ (l : List ℕ). length (distinct (l ++ ys))) (sym (keys-append items e))
    where
      xs : List ℕ
      xs = key_list items

      ys : List ℕ
      ys = key_list es

      to : (k : ℕ) → Mem k (e.key ∷ (xs ++ ys)) → Mem k ((xs ++ (e.key ∷ [])) ++ ys)
      to k (inl q) = number-l k (xs ++ (e.key ∷ [])) ys (number-r k xs (e.key ∷ []) (inl q))
      to k (inr m) = ⊎_elim (λ a. number-l k (xs ++ (e.key ∷ [])) ys (number-l k xs (e.key ∷ []) a)) (number-r k (xs ++ (e.key ∷ [])) ys) (number-cases k xs ys m)

      front : (k : ℕ) → Mem k (xs ++ (e.key ∷ [])) → Mem k (e.key ∷ (xs ++ ys))
      front k m = ⊎_elim (λ a. inr (number-l k xs ys a)) (⊎_elim (λ q. inl q) (λ n. absurd n)) (number-cases k xs (e.key ∷ []) m)

      back : (k : ℕ) → Mem k ((xs ++ (e.key ∷ [])) ++ ys) → Mem k (e.key ∷ (xs ++ ys))
      back k m = ⊎_elim (front k) (λ b. inr (number-r k xs ys b)) (number-cases k (xs ++ (e.key ∷ [])) ys m)
