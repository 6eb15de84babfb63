-- What the code shows of an item's own block: it joins the bits, and with it table and bits are those of the entries
-- with the item.
-- Assumes nothing.
use Rattle.std.proofs.Common.{◌≡◌, ℕ, ◌<◌, Bool, true, false, eqb, List, ◌∷◌, ◌++◌, length, sym, refl, ap, ◌∙◌, inl, arith, eq-eqb, ne_eqb, eqb-true}
use mathlib.Core.Logic.{by_cases}
use native.Mathlib.Decide.{ℕ_discrete}
use Rattle.spec.specs.declared.Size.{Size}
use Rattle.spec.specs.Basics.{both, either, negate}
use Rattle.spec.specs.Log.{Entry}
use Rattle.spec.specs.Blocks.{pointed}
use Rattle.theory_base.proofs.Lists.{both_l, both_r}
use Rattle.theory_log.proofs.Agree.{agree-one}
use Rattle.buffer.specs.Areas.{buffer_words}
use Rattle.places.specs.Sizes.{unit_count}
use Rattle.buffer.specs.Bits.{has_bit, BitWritten}
use Rattle.buffer.proofs.Laws.{kept-all}
use Rattle.volatile.proofs.Sums.{summed_same}
use Rattle.volatile.specs.Blocks.{block_at, points, top_block, Claimed}
use Rattle.apply.specs.Joining.{Shown, Awaited, Superseding}
use Rattle.apply.proofs.Joined.{live-joined, apart-joined}
use Rattle.apply.proofs.Freeing.{both-none}

-- THE CODE'S CASES: a put in a block, and others
module _ (size : Size) (op placement field : ℕ) where
  pub claimed-one : (b d : List ℕ) → op ≡ 1 → placement ≡ 1 → BitWritten size b d field true → Claimed size b d (block_at op placement field)
  claimed-one b d p q w = record { bits = λ u h. rw (eq-eqb op 1 p, eq-eqb placement 1 q) (by_cases (ℕ_discrete u field) (λ e. same u e (rw (eq-eqb op 1 p, eq-eqb placement 1 q) at h)) (other u)); kept = w.kept }
    where
      same : (u : ℕ) → u ≡ field → (eqb field u ≡ true → u < unit_count size) → has_bit size d u ≡ either (eqb field u) (has_bit size b u)
      same u e h = let t = eq-eqb field u (sym e) in let l = h t in rw t (ap (has_bit size d) e ∙ w.at (omega arith))

      other : (u : ℕ) → (u ≡ field → ⊥) → has_bit size d u ≡ either (eqb field u) (has_bit size b u)
      other u n = rw (ne_eqb field u (λ e. n (sym e))) (w.other u n)

  claimed-none : (b : List ℕ) → length b ≡ buffer_words → ((u : ℕ) → block_at op placement field u ≡ false) → Claimed size b b (block_at op placement field)
  claimed-none b n z = record { bits = λ u h. rw (z u); kept = kept-all b n }

  pub no-put : (b : List ℕ) → length b ≡ buffer_words → (op ≡ 1 → ⊥) → Claimed size b b (block_at op placement field)
  no-put b n p = claimed-none b n (λ u. rw (ne_eqb op 1 p))

  pub no_block : (b : List ℕ) → length b ≡ buffer_words → (placement ≡ 1 → ⊥) → Claimed size b b (block_at op placement field)
  no_block b n p = claimed-none b n (λ u. rw (ne_eqb placement 1 p, both-none (eqb op 1)))

-- AN ITEM with its block
pub joined-shown : (size : Size) → (n : ℕ) (ws buffer buffer' buffer'' table table' : List ℕ) (keys keys' : ℕ) (xs more ys : List Entry) (e : Entry) → Awaited size n ws table xs more ys e → Shown size buffer table keys (xs ++ ys)
    → (pointed e ≡ true → e.field < unit_count size) → Superseding size buffer buffer' table' keys' xs ys e → Claimed size buffer' buffer'' (λ u. points u e) → Shown size buffer'' table' keys' (xs ++ e ∷ ys)
joined-shown size n ws buffer buffer' buffer'' table table' keys keys' xs more ys e a s small p c = record {
  indexed = p.0;
  blocks = λ u.
      c.bits u (room u) ∙ ap (either (points u e)) (p.1 u ∙ ap (λ (t : Bool). both t (negate (top_block e.key (xs ++ ys) u))) (s.blocks u))
      ∙ sym (live-joined xs ys e (a.later e (inl refl)) a.dead s.agree s.apart u);
  sums = summed_same size buffer' buffer'' (xs ++ e ∷ ys) (λ i l. c.kept.above i (omega arith)) p.2;
  agree = agree-one xs ys e (a.later e (inl refl)) s.agree;
  apart = apart-joined xs ys e (a.later e (inl refl)) a.dead s.apart;
}
  where
    room : (u : ℕ) → points u e ≡ true → u < unit_count size
    room u h = let l = small (both_l (pointed e) (eqb e.field u) h) in let q = eqb-true e.field u (both_r (pointed e) (eqb e.field u) h) in omega arith
