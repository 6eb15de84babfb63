-- A key's chosen entry, with one more entry.
-- Assumes nothing.
use Rattle.std.proofs.Common.{◌≡◌, ℕ, ◌<◌, ◌≤◌, List, [], ◌∷◌, ◌++◌, sym, refl, ap, ◌∙◌, arith}
use mathlib.Core.Option.{Option, none, some}
use native.Mathlib.Decide.{ℕ_discrete}
use Rattle.spec.specs.Basics.{first}
use Rattle.spec.specs.Log.{Entry}
use Rattle.spec.specs.Contents.{highest, tops, chosen}
use Rattle.volatile.proofs.Info.{chosen-version, chosen-first, tops-other, tops_above, tops-twin, tops-below}

-- of another key, anywhere
pub chosen-other : (k : ℕ) (xs ys : List Entry) (e : Entry) → (e.key ≡ k → ⊥) → chosen k (xs ++ e ∷ ys) ≡ chosen k (xs ++ ys)
unfolding chosen
chosen-other k xs ys e n = ap first (tops-other k xs ys e n)

-- of the key, above all others, anywhere
pub chosen-above : (k : ℕ) (xs ys : List Entry) (e : Entry) → e.key ≡ k → highest k (xs ++ ys) < e.version → chosen k (xs ++ e ∷ ys) ≡ some e
unfolding chosen
chosen-above k xs ys e q l = ap first (tops_above k xs ys e q l)

-- of the key, behind all others and no higher
pub chosen-behind : (k : ℕ) (xs : List Entry) (e : Entry) → e.key ≡ k → 1 ≤ e.version → e.version ≤ highest k xs → chosen k (xs ++ e ∷ []) ≡ chosen k xs
unfolding chosen
chosen-behind k xs e q low l = go (chosen k xs) refl
  where
    go : (o : Option Entry) → chosen k xs ≡ o → chosen k (xs ++ e ∷ []) ≡ chosen k xs
    go none h = let v = chosen-version k xs none h in absurd (omega arith)
    go (some f) h = two (ℕ_discrete e.version (highest k xs))
      where
        t : (rest : List Entry) × (tops k xs ≡ f ∷ rest)
        t = chosen-first k xs f h

        two : Dec (e.version ≡ highest k xs) → chosen k (xs ++ e ∷ []) ≡ chosen k xs
        two (yes v) =
            let a : tops k (xs ++ e ∷ []) ≡ f ∷ (t.0 ++ e ∷ []) = tops-twin k xs e q v ∙ rw t.1 in
            ap first a ∙ sym (ap first t.1)
        two (no v) = ap first (tops-below k xs e q (omega arith))
