-- An entry that joins others, above all of its key or behind all of them.
-- Assumes nothing.
use Rattle.std.proofs.Common.{◌≡◌, ℕ, ◌+◌, ◌<◌, ◌≤◌, List, [], ◌∷◌, ◌++◌, sym, refl, ap, ◌∙◌, inl, append-nil, arith}
use mathlib.Core.Option.{none, some}
use Rattle.spec.specs.declared.Size.{Size}
use Rattle.spec.specs.Log.{Entry}
use Rattle.spec.specs.Contents.{chosen, highest}
use Rattle.theory_log.proofs.Contents.{mem-r}
use Rattle.theory_log.proofs.Keys.{mem-known}
use Rattle.logs.specs.Stands.{StandsIn}
use Rattle.volatile.specs.Known.{info_of, own_of, Small, Bounded}
use Rattle.volatile.specs.Sums.{weight, share_in, chosen_sum}
use Rattle.volatile.proofs.Info.{chosen-version}
use Rattle.volatile.proofs.Sums.{sum-turned}
use Rattle.volatile.proofs.Chosen.{chosen-other, chosen-above, chosen-behind}
use Rattle.volatile.specs.Change.{Renewing}

-- above all of its key, anywhere
pub joins-above : (size : Size) → (ws : List ℕ) (old own w : ℕ) (xs ys : List Entry) (e : Entry) → old ≡ info_of size e.key (xs ++ ys) → own ≡ own_of size e → w ≡ weight e → Bounded size (xs ++ ys) → Small size e
    → highest e.key (xs ++ ys) < e.version → ((f : Entry) → chosen e.key (xs ++ ys) ≡ some f → StandsIn ws f) → Renewing size ws old own w (xs ++ ys) (xs ++ e ∷ ys) e
joins-above size ws old own w xs ys e is-old is-own is-weight small own-small above stands = record {
  is-old = is-old;
  is-own = is-own;
  is-weight = is-weight;
  small = small;
  own-small = own-small;
  present = mem-known e.key (xs ++ e ∷ ys) e (mem-r e xs (e ∷ ys) (inl refl)) refl;
  others = λ j n. chosen-other j xs ys e (λ q. n (sym q));
  rises = λ l. chosen-above e.key xs ys e refl above;
  stays = λ l. absurd (omega arith);
  stands = stands;
}

-- behind all others
pub joins-behind : (size : Size) → (ws : List ℕ) (old own w : ℕ) (xs : List Entry) (e : Entry) → old ≡ info_of size e.key xs → own ≡ own_of size e → w ≡ weight e → Bounded size xs → Small size e
    → ((f : Entry) → chosen e.key xs ≡ some f → StandsIn ws f) → Renewing size ws old own w xs (xs ++ e ∷ []) e
joins-behind size ws old own w xs e is-old is-own is-weight small own-small stands = record {
  is-old = is-old;
  is-own = is-own;
  is-weight = is-weight;
  small = small;
  own-small = own-small;
  present = mem-known e.key (xs ++ e ∷ []) e (mem-r e xs (e ∷ []) (inl refl)) refl;
  others = λ j n. chosen-other j xs [] e (λ q. n (sym q)) ∙ ap (chosen j) (append-nil xs);
  rises = λ l. chosen-above e.key xs [] e refl (rw (append-nil xs) l);
  stays = λ l. chosen-behind e.key xs e refl own-small.version_low l;
  stands = stands;
}

-- of a new key
pub sum-new : (size : Size) → (c : ℕ) (xs : List Entry) (e : Entry) → chosen e.key xs ≡ none → 1 ≤ e.version → chosen_sum size c (xs ++ e ∷ []) ≡ chosen_sum size c xs + share_in size c (some e)
sum-new size c xs e none_yet low =
    let v : 0 ≡ highest e.key xs = chosen-version e.key xs none none_yet in
    let z : highest e.key (xs ++ []) < e.version = rw (append-nil xs) (omega arith) in
    let h : chosen e.key (xs ++ e ∷ []) ≡ some e = chosen-above e.key xs [] e refl z in
    let t = sum-turned size c e.key xs (xs ++ e ∷ []) (mem-known e.key (xs ++ e ∷ []) e (mem-r e xs (e ∷ []) (inl refl)) refl) (λ j n. chosen-other j xs [] e (λ q. n (sym q)) ∙ ap (chosen j) (append-nil xs)) in
    let u : chosen_sum size c (xs ++ e ∷ []) + 0 ≡ chosen_sum size c xs + share_in size c (some e) = rw (none_yet, h) at t in
    omega arith
