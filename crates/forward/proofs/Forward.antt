-- The entries when a cleaning's actions are done: those of the image with the copies, without the freed chunk's.
-- Assumes nothing.
use mathlib.Core.Path.{◌≡◌, sym, ◌∙◌, ap}
use mathlib.Core.Logic.{◌⊎◌}
use mathlib.Core.List.{List, ◌++◌}
use Prim.Native.Nat.{ℕ, ◌+◌, ◌≤◌, ◌<◌}
use Rattle.spec.specs.declared.Size.{Size}
use Rattle.places.specs.Sizes.{power_of}
use Rattle.spec.specs.Basics.{negate, filter}
use Rattle.spec.specs.Places.{base, chunk_words}
use Rattle.spec.specs.Log.{Entry}
use Rattle.spec.specs.Contents.{elsewhere}
use Rattle.theory_base.proofs.Lists.{filter-append, filter-all}
use Rattle.theory_log.specs.Contents.{Mem}
use Rattle.theory_log.proofs.Tops.{in_all}
use Rattle.theory_log.proofs.Kept.{Parts, out-chunk, filter-others}
use Rattle.session.specs.Cleaned.{copies_of, after}

-- `old` are the words at the begin, `image` those with the copies published, among `front` and `back`
module _ (sz : Size) (lo : 12 ≤ (power_of sz)) (hi : (power_of sz) ≤ 16) (n s at : ℕ) (old image : List ℕ) (es front back xs mid ys : List Entry) (p : Parts (power_of sz) lo hi n s old es xs mid ys) (split : es ≡ front ++ back)
    (aside : (e : Entry) → Mem e (copies_of xs mid ys at) → (e.at < base (power_of sz) s) ⊎ (base (power_of sz) s + chunk_words (power_of sz) ≤ e.at)) where
  pub left-of : List Entry
  left-of = filter (elsewhere (power_of sz) s) front

  pub right_of : List Entry
  right_of = filter (elsewhere (power_of sz) s) back

  pub others-are : left-of ++ right_of ≡ xs ++ ys
  unfolding left-of right_of
  others-are = sym (filter-append (elsewhere (power_of sz) s) front back) ∙ ap (filter (elsewhere (power_of sz) s)) (sym split) ∙ filter-others (power_of sz) lo hi n s old es xs mid ys p

  pub freed-entries : (entries xs' mid' ys' : List Entry) → Parts (power_of sz) lo hi n s image entries xs' mid' ys' → entries ≡ front ++ (copies_of xs mid ys at ++ back) → xs' ++ ys' ≡ after xs mid ys left-of right_of at
  unfolding left-of right_of
  freed-entries entries xs' mid' ys' q joined =
      let kept : filter (elsewhere (power_of sz) s) (copies_of xs mid ys at) ≡ copies_of xs mid ys at =
      filter-all (elsewhere (power_of sz) s) (copies_of xs mid ys at) (in_all (elsewhere (power_of sz) s) (copies_of xs mid ys at) (λ e m. ap negate (out-chunk (power_of sz) lo hi s e (aside e m)))) in
      sym (filter-others (power_of sz) lo hi n s image entries xs' mid' ys' q) ∙ ap (filter (elsewhere (power_of sz) s)) joined ∙ filter-append (elsewhere (power_of sz) s) front (copies_of xs mid ys at ++ back)
      ∙ ap (λ (l : List Entry). filter (elsewhere (power_of sz) s) front ++ l) (filter-append (elsewhere (power_of sz) s) (copies_of xs mid ys at) back ∙ ap (λ (l : List Entry). l ++ filter (elsewhere (power_of sz) s) back) kept)
