-- What the code shows of the marked blocks, with one more top entry.
-- Assumes nothing.
use mathlib.Core.Path.{◌≡◌, sym, ◌∙◌, ap}
use mathlib.Core.Bool.{Bool, true, false}
use mathlib.Core.Option.{some}
use mathlib.Core.List.{List}
use Prim.Native.Nat.{ℕ}
use Rattle.spec.specs.declared.Size.{Size}
use Rattle.spec.specs.Log.{Entry}
use Rattle.spec.specs.Contents.{chosen}
use Rattle.theory_base.proofs.Lists.{not-both}
use Rattle.theory_log.specs.Contents.{Mem, Apart}
use Rattle.theory_log.proofs.Contents.{chosen_is}
use Rattle.buffer.specs.Bits.{has_bit, BitWritten}
use Rattle.volatile.proofs.Marks.{marks-skip, marks-new, marks-clash}
use Rattle.logs.specs.declared.Entry as H
use Rattle.consistency.specs.Heads.{entry_of, points}
use Rattle.consistency.specs.Pass.{MarkedIs}

-- the entry at the chosen one's place is the chosen one
own-chosen : (ws : List ℕ) (h : H.Entry) (es : List Entry) (words : ℕ) (f : Entry) → Apart es → Mem (entry_of ws h words) es → chosen h.key es ≡ some f → f.at ≡ h.place
    → chosen h.key es ≡ some (entry_of ws h words)
own-chosen ws h es words f apart m c q = c ∙ ap some (apart f (entry_of ws h words) (chosen_is h.key es f c).in_list m q)

module _ (size : Size) (apart : Bool) (h : H.Entry) (place : ℕ) (before : List ℕ) where
  -- one that is not the chosen one
  pub marked_other : (h.place ≡ place → ⊥) → MarkedIs size apart h place before before apart
  marked_other n = record {
    kept = λ k. k;
    marks = λ ws es xs words f one in-es part fresh c at bit m. marks-skip es xs (entry_of ws h words) (has_bit size before) apart m
        (λ own p. n (let q : some f ≡ some (entry_of ws h words) = sym c ∙ own in let r : f ≡ entry_of ws h words = cc in ap (λ (x : Entry). x.at) (sym r) ∙ at));
  }

  -- one with no block
  pub marked-none : points h.op h.placement ≡ false → MarkedIs size apart h place before before apart
  marked-none z = record {
    kept = λ k. k;
    marks = λ ws es xs words f one in-es part fresh c at bit m. marks-skip es xs (entry_of ws h words) (has_bit size before) apart m (λ own p. not-both (points h.op h.placement) p z);
  }

  module _ (q : h.place ≡ place) (p : points h.op h.placement ≡ true) where
    pub marked-seen : has_bit size before h.field ≡ true → MarkedIs size apart h place before before false
    marked-seen has = record {
      kept = λ k. k;
      marks = λ ws es xs words f one in-es part fresh c at bit m.
          marks-clash es xs (entry_of ws h words) (has_bit size before) apart m part (own-chosen ws h es words f one in-es c (at ∙ sym q)) p fresh has;
    }

    pub marked-new : has_bit size before h.field ≡ false → (after : List ℕ) → BitWritten size before after h.field true → MarkedIs size apart h place before after apart
    marked-new has after written = record {
      kept = λ k. written.kept;
      marks = λ ws es xs words f one in-es part fresh c at bit m.
          marks-new es xs (entry_of ws h words) (has_bit size before) apart m part (own-chosen ws h es words f one in-es c (at ∙ sym q)) p (has_bit size after) has (written.at (bit p)) written.other;
    }
