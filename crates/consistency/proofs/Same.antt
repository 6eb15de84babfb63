-- Two entries that stand in an image agree exactly if their words there are the same.
-- Assumes nothing.
use mathlib.Core.Path.{◌≡◌, sym, ◌∙◌, ap}
use mathlib.Core.Bool.{Bool, true, false}
use mathlib.Core.List.{List}
use Prim.Native.Nat.{ℕ, zero, suc, ◌+◌, ◌-◌, ◌≤◌, ◌<◌, min}
use native.Mathlib.Nat.{add-zero}
use native.Mathlib.Decide.{ℕ_discrete}
use native.Mathlib.Omega.{arith}
use lib.Dec.{eqb}
use lib.ListN.{length, get_or}
use lib.Seq.{slice, slice_empty, slice-cons}
use borrow.Author.Tests.{eq-eqb, ne_eqb}
use Rattle.spec.specs.Basics.{both, same_list}
use Rattle.spec.specs.declared.FirstWord.TheVariants as F
use Rattle.spec.specs.Log.{Entry, first_of_word, words_for, head_of, encode}
use Rattle.spec.specs.Contents.{agree}
use Rattle.theory_log.proofs.Stands.{head_first}
use Rattle.logs.specs.Stands.{StandsIn}
use Rattle.logs.specs.declared.Entry as H
use Rattle.logs.proofs.Stands.{take-drop}
use Rattle.consistency.specs.Heads.{entry_of, same_from}
use Rattle.consistency.specs.Pass.{AgreesWith}

-- ## Comparing words

module _ (ws : List ℕ) (a b n i : ℕ) where
  pub same_end : n ≤ i → true ≡ same_from ws (a + i) (b + i) (n - i)
  same_end h = let z : n - i ≡ 0 = omega arith in rw z

  same_step : i < n → same_from ws (a + i) (b + i) (n - i) ≡ both (eqb (get_or ws (a + i) 0) (get_or ws (b + i) 0)) (same_from ws (a + (i + 1)) (b + (i + 1)) (n - (i + 1)))
  same_step h =
      let z : n - i ≡ suc (n - (i + 1)) = omega arith in
      let p : a + (i + 1) ≡ suc (a + i) = omega arith in
      let q : b + (i + 1) ≡ suc (b + i) = omega arith in
      rw (z, p, q)

  -- x and y are the words read
  module _ (h : i < n) (x y : ℕ) (is_x : x ≡ get_or ws (a + i) 0) (is_y : y ≡ get_or ws (b + i) 0) where
    pub same_next : x ≡ y → same_from ws (a + i) (b + i) (n - i) ≡ same_from ws (a + (i + 1)) (b + (i + 1)) (n - (i + 1))
    same_next e = same_step h ∙ rw (eq-eqb (get_or ws (a + i) 0) (get_or ws (b + i) 0) (sym is_x ∙ e ∙ is_y))

    pub same_not : (x ≡ y → ⊥) → same_from ws (a + i) (b + i) (n - i) ≡ false
    same_not e = same_step h ∙ rw (ne_eqb (get_or ws (a + i) 0) (get_or ws (b + i) 0) (λ q. e (is_x ∙ q ∙ sym is_y)))

pub same-begin : (ws : List ℕ) (a b n : ℕ) → same_from ws a b n ≡ same_from ws (a + 0) (b + 0) (n - 0)
same-begin ws a b n = let z : n - 0 ≡ n = omega arith in rw (add-zero a, add-zero b, z)

-- the words as a list
same-slices : (ws : List ℕ) (n a b : ℕ) → a + n ≤ length ws → b + n ≤ length ws → same_list (slice a (a + n) ws) (slice b (b + n) ws) ≡ same_from ws a b n
same-slices ws zero a b p q = rw (add-zero a, add-zero b, slice_empty a ws, slice_empty b ws)
same-slices ws (suc n) a b p q =
    let x : a + suc n ≡ suc a + n = omega arith in
    let y : b + suc n ≡ suc b + n = omega arith in
    rw (slice-cons a (a + suc n) ws 0 (omega arith) p, slice-cons b (b + suc n) ws 0 (omega arith) q, x, y)
    (ap (both (eqb (get_or ws a 0) (get_or ws b 0))) (same-slices ws n (suc a) (suc b) (omega arith) (omega arith)))

-- ## Comparing entries

module _ (ws : List ℕ) (e f : Entry) (se : StandsIn ws e) (sf : StandsIn ws f) where
  abbrev words : ℕ
  words = 2 + words_for e.placement e.field

  agree-words : same_from ws e.at f.at words ≡ agree e f
  agree-words = go (ℕ_discrete (get_or ws e.at 0) (get_or ws f.at 0))
    where
      go : Dec (get_or ws e.at 0 ≡ get_or ws f.at 0) → same_from ws e.at f.at words ≡ agree e f
      go (yes q) =
          let a = se.first in
          let b = sf.first in
          let c = ap first_of_word q in
          let same : F.Entry e.op e.placement e.version e.field ≡ F.Entry f.op f.placement f.version f.field = sym a ∙ c ∙ b in
          let pl : f.placement ≡ e.placement = cc in
          let x : f.field ≡ e.field = cc in
          let there : 2 + words_for f.placement f.field ≡ words = rw (pl, x) in
          let own : slice e.at (e.at + words) ws ≡ encode e = sym (take-drop e.at words ws) ∙ se.words in
          let other : slice f.at (f.at + words) ws ≡ encode f = rw there at (sym (take-drop f.at (2 + words_for f.placement f.field) ws) ∙ sf.words) in
          sym (same-slices ws words e.at f.at se.fits (rw there at sf.fits)) ∙ rw (own, other)
      go (no n) =
          let w : words ≡ suc (suc (words_for e.placement e.field)) = omega arith in
          let a : head_of e ≡ get_or ws e.at 0 = head_first (get_or ws e.at 0) e.op e.placement e.version e.field se.first in
          let b : head_of f ≡ get_or ws f.at 0 = head_first (get_or ws f.at 0) f.op f.placement f.version f.field sf.first in
          rw (w, ne_eqb (get_or ws e.at 0) (get_or ws f.at 0) n, ne_eqb (head_of e) (head_of f) (λ q. n (sym a ∙ q ∙ b)))

-- what the code shows: places past the image are cut
pub shows-agree : (ws : List ℕ) (h : H.Entry) (place a b n end : ℕ) (r : Bool) → end ≡ length ws → a ≡ min h.place end → b ≡ min place end → n ≡ words_for h.placement h.field
    → r ≡ same_from ws a b (2 + n) → AgreesWith ws h place r
shows-agree ws h place a b n end r is-end is-a is_b is-n is words f se sf at =
    let l = se.fits in
    let m = sf.fits in
    let x : a ≡ h.place = omega arith in
    let y : b ≡ f.at = omega arith in
    is ∙ rw (x, y, is-n) (agree-words ws (entry_of ws h words) f se sf)
