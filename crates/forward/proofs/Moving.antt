-- A cleaning whose actions are done: what is kept stands in one chunk.
-- Assumes nothing.
use mathlib.Core.Path.{◌≡◌, sym, ◌∙◌, ap}
use mathlib.Core.Logic.{◌⊎◌, inl, inr}
use mathlib.Core.Bool.{true, false}
use mathlib.Core.List.{List, [], ◌∷◌}
use Prim.Native.Nat.{ℕ, suc, ◌+◌, ◌*◌, ◌≤◌, ◌<◌}
use native.Mathlib.Omega.{arith}
use lib.ListN.{length, replicate, length-append}
use borrow.Author.Tests.{eq-eqb, ne_eqb}
use Rattle.spec.specs.declared.Size.{Size}
use Rattle.places.specs.Sizes.{power_of}
use Rattle.spec.specs.Places.{base, chunk_words, word_chunk}
use Rattle.spec.specs.Log.{Entry, encode_all, placed}
use Rattle.spec.specs.Contents.{in_chunk}
use Rattle.theory_base.proofs.Places.{words-least, words-most, base-next, chunk-of-word, word-place}
use Rattle.theory_log.specs.Contents.{Mem}
use Rattle.theory_log.proofs.Walk.{slice-long}
use Rattle.volatile.proofs.Image.{base-most}
use Rattle.session.specs.Cleaned.{kept_of, after, Moves}
use Rattle.forward.specs.Freed.{Freed}
use Rattle.forward.proofs.Freed.{outside}

-- entries one behind the other stand in their words
placed-in : (c : Entry) (at : ℕ) (es : List Entry) → Mem c (placed at es) → (at ≤ c.at) × (c.at < at + length (encode_all es))
placed-in c at [] m = absurd m
placed-in c at (e ∷ es) (inl q) = let p : c.at ≡ at = ap (λ (x : Entry). x.at) q in let l = length-append e.value (encode_all es) in (omega arith, omega arith)
placed-in c at (e ∷ es) (inr m) =
    let r = placed-in c (at + (2 + length e.value)) es m in
    let low = r.0 in
    let high = r.1 in
    let l = length-append e.value (encode_all es) in
    (omega arith, omega arith)

module _ (sz : Size) (lo : 12 ≤ (power_of sz)) (hi : (power_of sz) ≤ 16) (n s at b z : ℕ) (old ws : List ℕ) (es xs mid ys as' bs : List Entry) (f : Freed sz lo hi n s at b z old ws es xs mid ys as' bs) where
  -- in no lines there are no words
  pub nothing-kept : b ≡ 0 → length (encode_all (kept_of xs mid ys)) ≡ 0
  nothing-kept e =
      let w = ap length f.written ∙ length-append (encode_all (kept_of xs mid ys)) (replicate z 0) in
      let l = slice-long at (at + 8 * b) ws in
      omega arith

  in_source : (e : Entry) → Mem e mid → in_chunk (power_of sz) s e ≡ true
  in_source e m = let r = f.parts.inside e m in eq-eqb (word_chunk (power_of sz) e.at) s (chunk-of-word (power_of sz) lo hi s e.at r.0 r.1)

  not-source : (e : Entry) → Mem e (after xs mid ys as' bs at) → in_chunk (power_of sz) s e ≡ false
  not-source e m = ne_eqb (word_chunk (power_of sz) e.at) s (λ q. go (rw q at (word-place (power_of sz) lo hi e.at)) (outside sz lo hi n s at b z old ws es xs mid ys as' bs f e m))
    where
      go : (base (power_of sz) s ≤ e.at) × (e.at < base (power_of sz) s + chunk_words (power_of sz)) → (e.at < base (power_of sz) s) ⊎ (base (power_of sz) s + chunk_words (power_of sz) ≤ e.at) → ⊥
      go (a, c) (inl l) = omega arith
      go (a, c) (inr l) = omega arith

  pub moving : (words d lines : ℕ) → s ≤ 503 → d ≤ 503 → at ≡ base (power_of sz) d + 8 * lines → 8 * lines + words ≤ chunk_words (power_of sz) → words ≡ length (encode_all (kept_of xs mid ys)) → Moves sz s words xs mid ys as' bs at
  moving words d lines small-s small-d is_at fits keeps =
      let most = words-most (power_of sz) lo hi in
      let some_words = words-least (power_of sz) lo hi in
      let next = base-next (power_of sz) lo hi d in
      let top = (base-most sz (suc d) (omega arith)).0 in
      record {
        source = omega arith;
        target = omega arith;
        inside = in_source;
        outside = not-source;
        together = λ e m.
            let r = placed-in e at (kept_of xs mid ys) m in
            let low = r.0 in
            let high = r.1 in
            chunk-of-word (power_of sz) lo hi d e.at (omega arith) (omega arith) ∙ sym (chunk-of-word (power_of sz) lo hi d at (omega arith) (omega arith));
        keeps = keeps;
        few = omega arith;
      }
