-- The laws of entries of which a second pass has nothing to find: they pass its tests, and one pass shows that they are
-- such.
-- Assumes nothing.
use Rattle.std.proofs.Common.{◌≡◌, ℕ, suc, ◌<◌, Bool, true, false, eqb, leb, ◌⊎◌, List, [], ◌∷◌, ◌++◌, length, sym, refl, ap, ◌∙◌, inl, inr, arith, eq-eqb, eqb-true, le-leb}
use mathlib.Core.Option.{Option, none, some}
use Rattle.spec.specs.declared.Size.{Size}
use Rattle.spec.specs.declared.Size.TheVariants as S
use Rattle.spec.specs.Basics.{pick, first}
use Rattle.spec.specs.Log.{Entry, moved}
use Rattle.spec.specs.Blocks.{pointed}
use Rattle.spec.specs.Contents.{highest, is_top_of, is_top, tops, chosen}
use Rattle.spec.specs.Opening.{fine, agree_with}
use Rattle.theory_base.proofs.Lists.{not-both, both-i, pick-i}
use Rattle.theory_log.specs.Contents.{Mem}
use Rattle.theory_log.proofs.Contents.{filter-mem, mem-cases, chosen_none}
use Rattle.theory_log.proofs.Tops.{in_all}
use Rattle.theory_log.proofs.Agree.{same-agrees}
use Rattle.packing.specs.declared.Info.{Info}
use Rattle.packing.specs.Packed.{pack_of}
use Rattle.volatile.specs.Known.{several, info_of, own_of, noted, Bounded}
use Rattle.volatile.specs.Check.{CheckInv}
use Rattle.volatile.specs.Plain.{Single, Direct, PlainInv}
use Rattle.volatile.proofs.Info.{said, several-most, info-chosen, info-none, chosen-first}
use Rattle.volatile.proofs.Grow.{grows-last}

-- A word without the bit is that of a key with one top entry at most.
bit-low : (size : Size) (i : Info) → i.several < 2 → pack_of size i < 0x8000_0000_0000_0000 → i.several ≡ 0
bit-low S.Small i m l = omega arith
bit-low S.Large i m l = omega arith

first-nil : (ts : List Entry) → first ts ≡ none → ts ≡ []
first-nil [] h = refl
first-nil (t ∷ ts) h = absurd (let z : ◌≡◌ {A = ℕ} 0 1 = cc in omega arith)

tops-nil : (k : ℕ) (es : List Entry) → chosen k es ≡ none → tops k es ≡ []
unfolding chosen
tops-nil k es h = first-nil (tops k es) h

pub low-single : (size : Size) → (k : ℕ) (es : List Entry) → info_of size k es < 0x8000_0000_0000_0000 → several k es ≡ 0
low-single size k es l = go (chosen k es) refl
  where
    go : (q : Option Entry) → chosen k es ≡ q → several k es ≡ 0
    go none h = rw (tops-nil k es h)
    go (some f) h = bit-low size (said size k es f) (several-most k es) (rw (info-chosen size k es f h) at l)

-- A top entry is then the chosen one of its key.
alone : (f : Entry) (rest : List Entry) → ◌≡◌ {A = ℕ} (pick (leb 2 (length (f ∷ rest))) 1 0) 0 → rest ≡ []
alone f [] h = refl
alone f (g ∷ rest) h =
    let l : leb 2 (suc (suc (length rest))) ≡ true = le-leb 2 (suc (suc (length rest))) (omega arith) in
    let z : ◌≡◌ {A = ℕ} 1 0 = rw l at h in
    absurd (omega arith)

own-top : (es : List Entry) (e f : Entry) → several e.key es ≡ 0 → Mem e es → is_top es e ≡ true → chosen e.key es ≡ some f → e ≡ f
unfolding tops
own-top es e f single m t h = go (rw (q.1, r) at in-tops)
  where
    in-tops : Mem e (tops e.key es)
    in-tops = filter-mem (is_top_of e.key (highest e.key es)) e es m (both-i _ _ (eq-eqb e.key e.key refl) t)

    q : (rest : List Entry) × (tops e.key es ≡ f ∷ rest)
    q = chosen-first e.key es f h

    r : q.0 ≡ []
    r = alone f q.0 (rw q.1 at single)

    go : Mem e (f ∷ []) → e ≡ f
    go (inl d) = d
    go (inr d) = absurd d

-- ## The tests of the second pass

pub single-agrees : (es : List Entry) (e : Entry) → several e.key es ≡ 0 → Mem e es → is_top es e ≡ true → agree_with e (chosen e.key es) ≡ true
single-agrees es e single m t = go (chosen e.key es) refl
  where
    go : (q : Option Entry) → chosen e.key es ≡ q → agree_with e q ≡ true
    go none h = refl
    go (some f) h = same-agrees e f (ap (moved 0) (own-top es e f single m t h))

pub plain-check : (p n : ℕ) (ws : List ℕ) (es : List Entry) (has : ℕ → Bool) → ((u : ℕ) → has u ≡ false) → Single es → Direct es → CheckInv p n ws es es has true true true
plain-check p n ws es has z single direct = record {
  right = sym (in_all _ es (λ e m. pick-i (is_top es e) (fine p n ws e) (λ t. rw (direct.each e m))));
  agreed = sym (in_all _ es (λ e m. pick-i (is_top es e) _ (single-agrees es e (single.each e.key) m)));
  marks = record {
    marked = λ e l. absurd (not-both (pointed e) l.points (direct.each e l.member));
    only = λ u h. absurd (not-both (has u) h (z u));
    alone = λ t e f l m q. absurd (not-both (pointed e) l.points (direct.each e l.member));
    clash = λ f. absurd (not-both true refl f);
  };
}

-- ## The pass that shows it

pub plain-start : (size : Size) → PlainInv size [] true true true
plain-start size = record {
  held = λ t. refl;
  low = λ t k. let e : info_of size k [] ≡ 0 = info-none size k [] (chosen_none k [] (λ f m q. m)) in omega arith;
  unpointed = λ t e m. absurd m;
}

module _ (size : Size) (es : List Entry) (single direct fits : Bool) (inv : PlainInv size es single direct fits) where
  pub single-end : single ≡ true → Single es
  single-end t = record { each = λ k. low-single size k es (inv.low t k) }

  pub direct-end : direct ≡ true → Direct es
  direct-end t = record { each = inv.unpointed t }

-- One more entry.
low-next : (size : Size) → (xs : List Entry) (e : Entry) → Bounded size (xs ++ e ∷ []) → ((k : ℕ) → info_of size k xs < 0x8000_0000_0000_0000) → noted size (info_of size e.key xs) (own_of size e) < 0x8000_0000_0000_0000
    → (k : ℕ) → info_of size k (xs ++ e ∷ []) < 0x8000_0000_0000_0000
low-next size xs e b low l k = rw ((grows-last size xs e b).info k) (go (eqb e.key k) (eqb-true e.key k))
  where
    go : (t : Bool) → (t ≡ true → e.key ≡ k) → pick t (noted size (info_of size k xs) (own_of size e)) (info_of size k xs) < 0x8000_0000_0000_0000
    go true y = rw (← y refl) l
    go false y = low k

pub plain-next : (size : Size) → (xs : List Entry) (e : Entry) (single direct fits single' direct' fits' : Bool) → Bounded size (xs ++ e ∷ []) → PlainInv size xs single direct fits
    → (single' ≡ true → (single ≡ true) × (fits' ≡ true) × (noted size (info_of size e.key xs) (own_of size e) < 0x8000_0000_0000_0000)) → (direct' ≡ true → (direct ≡ true) × (pointed e ≡ false))
    → PlainInv size (xs ++ e ∷ []) single' direct' fits'
plain-next size xs e single direct fits single' direct' fits' b inv so in-log = record {
  held = λ t. (so t).1;
  low = λ t. low-next size xs e b (inv.low (so t).0) (so t).2;
  unpointed = λ t f m. go (in-log t).0 (in-log t).1 f (mem-cases f xs (e ∷ []) m);
}
  where
    go : direct ≡ true → pointed e ≡ false → (f : Entry) → Mem f xs ⊎ Mem f (e ∷ []) → pointed f ≡ false
    go t n f (inl m) = inv.unpointed t f m
    go t n f (inr (inl q)) = ap pointed q ∙ n
    go t n f (inr (inr m)) = absurd m
