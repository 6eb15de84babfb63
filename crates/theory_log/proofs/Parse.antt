-- The laws of parsing: what is appended, what was encoded.
-- Assumes nothing.
use Rattle.std.proofs.lemmas.Bool.Decides.{nat_tests}
use mathlib.Core.Path.{◌≡◌, refl, sym, ◌∙◌, ap}
use mathlib.Core.Bool.{Bool, true, false}
use mathlib.Core.List.{List, [], ◌∷◌, ◌++◌}
use Prim.Native.Nat.{ℕ, zero, suc, ◌+◌, ◌/◌, ◌%◌, ◌^◌, ◌<◌, ◌≤◌}
use native.Mathlib.Nat.{add-zero, add-suc, suc-add, le_of_suc-le-suc, not-suc-le-zero}
use native.Mathlib.Omega.{arith}
use lib.Dec.{eqb, ltb}
use lib.ListN.{length, get_or, take, drop, length-append, length-drop, get_or-append}
use lib.Seq.{take-append-le, drop-append-le}
use borrow.Author.Tests.{le-ltb, eqb-false}
use Rattle.spec.specs.declared.FirstWord.{FirstWord}
use Rattle.spec.specs.declared.FirstWord.TheVariants as F
use Rattle.spec.specs.declared.LogStep.{LogStep}
use Rattle.spec.specs.declared.LogStep.TheVariants as S
use Rattle.spec.specs.Basics.{pick}
use Rattle.spec.specs.Log.{first_of_word, words_for, filled, with_first, step_of, Entry, Parsed, Wrong, Entries, cons, prepend, after, parse}

-- An entry that is not wrong ends within the words and is filled; and the other way round.
pub entry-right : (op pl v x : ℕ) (l : List ℕ) → (with_first (F.Entry op pl v x) l ≡ S.Wrong → ⊥) → (2 + words_for pl x ≤ length l) × (filled pl x l ≡ true)
entry-right op pl v x l h = grind (arith, nat_tests)

pub entry-step : (op pl v x : ℕ) (l : List ℕ) → 2 + words_for pl x ≤ length l → filled pl x l ≡ true
    → with_first (F.Entry op pl v x) l ≡ S.Entry op pl v x (get_or l 1 0) (words_for pl x)
entry-step op pl v x l h e = rw (le-ltb (length l) (2 + words_for pl x) h, e)

-- What follows the entry does not matter.
pub filled-append : (pl x : ℕ) (l ys : List ℕ) → 2 + words_for pl x ≤ length l → filled pl x (l ++ ys) ≡ filled pl x l
filled-append pl x l ys h = go (eqb pl 0) (eqb (x % 8) 0) (eqb-false (x % 8) 0) h
  where
    go : (b d : Bool) → (d ≡ false → x % 8 ≡ 0 → ⊥) → 2 + pick b ((x + 7) / 8) 0 ≤ length l
        → pick b (pick d true (ltb (get_or (l ++ ys) (2 + x / 8) 0) (256 ^ (x % 8)))) true ≡ pick b (pick d true (ltb (get_or l (2 + x / 8) 0) (256 ^ (x % 8)))) true
    go false d n r = refl
    go true true n r = refl
    go true false n r = let m = n refl in rw (get_or-append l ys 0 (2 + x / 8) (omega arith))

pub with_first-append : (f : FirstWord) (l ys : List ℕ) → (with_first f l ≡ S.Wrong → ⊥) → with_first f (l ++ ys) ≡ with_first f l
with_first-append F.Padding l ys h = refl
with_first-append F.Wrong l ys h = absurd (h refl)
with_first-append (F.Entry op pl v x) l ys h =
    let r = entry-right op pl v x l h in
    let n : 2 + words_for pl x ≤ length l = r.0 in
    let k : 1 < length l = omega arith in
    entry-step op pl v x (l ++ ys) (rw length-append (omega arith)) (filled-append pl x l ys n ∙ r.1) ∙ rw (get_or-append l ys 0 1 k) (sym (entry-step op pl v x l n r.1))

pub step-append : (w : ℕ) (ws ys : List ℕ) → (step_of (w ∷ ws) ≡ S.Wrong → ⊥) → step_of (w ∷ ws ++ ys) ≡ step_of (w ∷ ws)
unfolding step_of
step-append w ws ys h = with_first-append (first_of_word w) (w ∷ ws) ys h

-- what a found entry says of the words
pub record Found (op pl v x k n w : ℕ) (ws : List ℕ) : Type 0 where
  pub first : first_of_word w ≡ F.Entry op pl v x
  pub words : words_for pl x ≡ n
  pub fits : suc n ≤ length ws
  pub fill : filled pl x (w ∷ ws) ≡ true
  pub key : get_or ws 0 0 ≡ k

pub found : (op pl v x k n w : ℕ) (ws : List ℕ) → step_of (w ∷ ws) ≡ S.Entry op pl v x k n → Found op pl v x k n w ws
unfolding step_of
found op pl v x k n w ws e = grind (arith, nat_tests)

no_end : (w : ℕ) (ws : List ℕ) → step_of (w ∷ ws) ≡ S.End → ⊥
unfolding step_of
no_end w ws e = grind (arith, nat_tests)

pub cons_inv : (e : Entry) (p : Parsed) (es : List Entry) → cons e p ≡ Entries es → (fs : List Entry) × (p ≡ Entries fs) × (es ≡ e ∷ fs)
cons_inv e Wrong es h = absurd (let z : ◌≡◌ {A = ℕ} 0 1 = cc in omega arith)
cons_inv e (Entries fs) es h = (fs, refl, cc)

pub prepend-entries : (es fs : List Entry) → prepend es (Entries fs) ≡ Entries (es ++ fs)
prepend-entries [] fs = refl
prepend-entries (e ∷ es) fs = ap (cons e) (prepend-entries es fs)

-- Where xs parses, what is appended parses behind it.
pub parse-append : (xs ys : List ℕ) (skip at : ℕ) (es : List Entry) → skip ≤ length xs → parse xs skip at ≡ Entries es
    → parse (xs ++ ys) skip at ≡ prepend es (parse ys 0 (at + length xs))
parse-append [] ys zero at es h e = rw (add-zero) (let q : es ≡ [] = cc in rw q refl)
parse-append [] ys (suc n) at es h e = absurd (not-suc-le-zero h)
parse-append (w ∷ ws) ys (suc n) at es h e = rw (add-suc, ← suc-add) (parse-append ws ys n (suc at) es (le_of_suc-le-suc h) e)
parse-append (w ∷ ws) ys zero at es h e = rw (add-suc, ← suc-add) (go (step_of (w ∷ ws)) refl e (λ n fs. parse-append ws ys n (suc at) fs))
  where
    go : (s : LogStep) → step_of (w ∷ ws) ≡ s → after s (w ∷ ws) at (λ n. parse ws n (suc at)) ≡ Entries es
        → ((n : ℕ) (fs : List Entry) → n ≤ length ws → parse ws n (suc at) ≡ Entries fs → parse (ws ++ ys) n (suc at) ≡ prepend fs (parse ys 0 (suc at + length ws)))
        → after (step_of (w ∷ ws ++ ys)) (w ∷ ws ++ ys) at (λ n. parse (ws ++ ys) n (suc at)) ≡ prepend es (parse ys 0 (suc at + length ws))
    go S.End q a rec = absurd (no_end w ws q)
    go S.Wrong q a rec = absurd (let z : ◌≡◌ {A = ℕ} 0 1 = cc in omega arith)
    go S.Padding q a rec = rw (step-append w ws ys (λ z. let y : ◌≡◌ {A = ℕ} 0 1 = cc in omega arith), q) (rec 0 es (omega arith) a)
    go (S.Entry op pl v x k n) q a rec =
        let f = found op pl v x k n w ws q in
        let c = cons_inv _ (parse ws (suc n) (suc at)) es a in
        let m : suc n ≤ length ws = f.fits in
        let d : n ≤ length (drop 1 ws) = rw length-drop (omega arith) in
        let u : 1 ≤ length ws = omega arith in
        let t : take n (drop 1 (ws ++ ys)) ≡ take n (drop 1 ws) = rw (drop-append-le 1 ws ys u) (take-append-le n (drop 1 ws) ys d) in
        rw (step-append w ws ys (λ z. let y : ◌≡◌ {A = ℕ} 0 1 = cc in omega arith), q, c.2, rec (suc n) c.0 m c.1, t)
