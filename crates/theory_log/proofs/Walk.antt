-- A walk over committed words: the words from a place up to the end, and one step of parsing there.
-- Assumes nothing.
use mathlib.Core.Path.{◌≡◌, refl, ◌∙◌, ap}
use mathlib.Core.Bool.{Bool, true, false}
use mathlib.Core.List.{List, [], ◌∷◌}
use Prim.Native.Nat.{ℕ, zero, suc, ◌+◌, ◌-◌, ◌/◌, ◌%◌, ◌^◌, ◌<◌, ◌≤◌, min}
use native.Mathlib.Nat.{add-zero, add-suc, suc-add, le_of_suc-le-suc}
use native.Mathlib.Omega.{arith}
use lib.Dec.{eqb, ltb}
use lib.ListN.{length, get_or, take, drop, length-drop, length-take, drop_of_length-le}
use lib.Seq.{drop-cons, drop-drop, slice, get_or-take, get_or-drop}
use borrow.Author.Tests.{le-ltb, lt-ltb, eqb-false}
use Rattle.spec.specs.declared.FirstWord.{FirstWord}
use Rattle.spec.specs.declared.FirstWord.TheVariants as F
use Rattle.spec.specs.declared.LogStep.TheVariants as S
use Rattle.spec.specs.Basics.{pick}
use Rattle.spec.specs.Log.{first_of_word, words_for, filled, with_first, step_of, Entry, Wrong, Entries, cons, parse}
use Rattle.theory_log.proofs.Parse.{found}

pub slice-long : (at end : ℕ) (ws : List ℕ) → length (slice at end ws) ≡ min end (length ws) - at
slice-long at end ws = rw (length-drop, length-take)

pub slice_at : (at end : ℕ) (ws : List ℕ) (i : ℕ) → at + i < end → get_or (slice at end ws) i 0 ≡ get_or ws (at + i) 0
slice_at at end ws i h = rw (get_or-drop, get_or-take end ws (at + i) 0 h)

pub slice-head : (at end : ℕ) (ws : List ℕ) → at < end → at < length ws → slice at end ws ≡ get_or ws at 0 ∷ slice (suc at) end ws
slice-head at end ws h l =
    let k : at < length (take end ws) = rw length-take (omega arith) in
    drop-cons (take end ws) at 0 k ∙ rw (get_or-take end ws at 0 h)

pub slice-more : (at n end : ℕ) (ws : List ℕ) → drop n (slice at end ws) ≡ slice (at + n) end ws
slice-more at n end ws = drop-drop n at (take end ws)

-- What stands at a place.
pub step_end : (at end : ℕ) (ws : List ℕ) → min end (length ws) ≤ at → step_of (slice at end ws) ≡ S.End
unfolding step_of
step_end at end ws h = let k : length (take end ws) ≤ at = rw length-take h in rw (drop_of_length-le (take end ws) k)

pub step-first : (at end : ℕ) (ws : List ℕ) (f : FirstWord) → at < end → at < length ws → first_of_word (get_or ws at 0) ≡ f → step_of (slice at end ws) ≡ with_first f (slice at end ws)
unfolding step_of
step-first at end ws f h l e = ap step_of (slice-head at end ws h l) ∙ rw (e, ← slice-head at end ws h l)

pub step-short : (op pl v x at end : ℕ) (ws : List ℕ) → at < end → at < length ws → first_of_word (get_or ws at 0) ≡ F.Entry op pl v x
    → min end (length ws) - at < 2 + words_for pl x → step_of (slice at end ws) ≡ S.Wrong
step-short op pl v x at end ws h l e s =
    step-first at end ws (F.Entry op pl v x) h l e ∙ rw (lt-ltb (length (slice at end ws)) (2 + words_for pl x) (rw slice-long s))

pub fill-at : (pl x at end : ℕ) (ws : List ℕ) → at + (2 + words_for pl x) ≤ end → filled pl x (slice at end ws) ≡ filled pl x (drop at ws)
fill-at pl x at end ws h = go (eqb pl 0) (eqb (x % 8) 0) (eqb-false (x % 8) 0) h
  where
    go : (b d : Bool) → (d ≡ false → x % 8 ≡ 0 → ⊥) → at + (2 + pick b ((x + 7) / 8) 0) ≤ end
        → pick b (pick d true (ltb (get_or (slice at end ws) (2 + x / 8) 0) (256 ^ (x % 8)))) true ≡ pick b (pick d true (ltb (get_or (drop at ws) (2 + x / 8) 0) (256 ^ (x % 8)))) true
    go false d n r = refl
    go true true n r = refl
    go true false n r = let m = n refl in rw (slice_at at end ws (2 + x / 8) (omega arith), get_or-drop)

pub step-fill : (op pl v x at end : ℕ) (ws : List ℕ) → first_of_word (get_or ws at 0) ≡ F.Entry op pl v x
    → at + (2 + words_for pl x) ≤ end → at + (2 + words_for pl x) ≤ length ws → (b : Bool) → b ≡ filled pl x (drop at ws)
    → step_of (slice at end ws) ≡ pick b (S.Entry op pl v x (get_or ws (at + 1) 0) (words_for pl x)) S.Wrong
step-fill op pl v x at end ws e h l b q =
    let n : 2 + words_for pl x ≤ length (slice at end ws) = rw slice-long (omega arith) in
    step-first at end ws (F.Entry op pl v x) (omega arith) (omega arith) e
    ∙ rw (le-ltb (length (slice at end ws)) (2 + words_for pl x) n, fill-at pl x at end ws h, ← q, slice_at at end ws 1 (omega arith))

-- One step of parsing, at any place.
pub parse-drop : (ws : List ℕ) (n at : ℕ) → n ≤ length ws → parse ws n at ≡ parse (drop n ws) 0 (at + n)
parse-drop [] zero at h = refl
parse-drop [] (suc n) at h = refl
parse-drop (w ∷ ws) zero at h = rw add-zero
parse-drop (w ∷ ws) (suc n) at h = rw (add-suc, ← suc-add) (parse-drop ws n (suc at) (le_of_suc-le-suc h))

pub parse-end : (l : List ℕ) (at : ℕ) → step_of l ≡ S.End → parse l 0 at ≡ Entries []
parse-end [] at e = refl
parse-end (w ∷ ws) at e = rw e

pub parse-wrong : (l : List ℕ) (at : ℕ) → step_of l ≡ S.Wrong → parse l 0 at ≡ Wrong
unfolding step_of
parse-wrong [] at e = absurd (let z : ◌≡◌ {A = ℕ} 0 1 = cc in omega arith)
parse-wrong (w ∷ ws) at e = rw e

pub parse-padding : (l : List ℕ) (at : ℕ) → step_of l ≡ S.Padding → (1 ≤ length l) × (parse l 0 at ≡ parse (drop 1 l) 0 (at + 1))
unfolding step_of
parse-padding [] at e = absurd (let z : ◌≡◌ {A = ℕ} 0 1 = cc in omega arith)
parse-padding (w ∷ ws) at e = (omega arith, rw e (let q : suc at ≡ at + 1 = omega arith in rw q))

abbrev pub entry_at : (op pl v x k n : ℕ) → List ℕ → ℕ → Entry
entry_at op pl v x k n l at = record { op = op; placement = pl; version = v; field = x; key = k; value = take n (drop 2 l); at = at }

pub parse-next : (l : List ℕ) (at op pl v x k n : ℕ) → step_of l ≡ S.Entry op pl v x k n
    → (2 + n ≤ length l) × (parse l 0 at ≡ cons (entry_at op pl v x k n l at) (parse (drop (2 + n) l) 0 (at + (2 + n))))
unfolding step_of
parse-next [] at op pl v x k n e = absurd (let z : ◌≡◌ {A = ℕ} 0 1 = cc in omega arith)
parse-next (w ∷ ws) at op pl v x k n e =
    let f = found op pl v x k n w ws e in
    let m : suc n ≤ length ws = f.fits in
    let q : suc at + suc n ≡ at + (2 + n) = omega arith in
    let d : 2 + n ≡ suc (suc n) = omega arith in
    (omega arith, rw (e, parse-drop ws (suc n) (suc at) m, q, d))

pub room-padding : (ws : List ℕ) (at end : ℕ) → step_of (slice at end ws) ≡ S.Padding → (at + 1 ≤ end) × (at + 1 ≤ length ws)
room-padding ws at end q = let p = rw slice-long at (parse-padding (slice at end ws) at q).0 in omega arith

pub room-entry : (ws : List ℕ) (at end op pl v x k n : ℕ) → step_of (slice at end ws) ≡ S.Entry op pl v x k n → (at + (2 + n) ≤ end) × (at + (2 + n) ≤ length ws)
room-entry ws at end op pl v x k n q = let p = rw slice-long at (parse-next (slice at end ws) at op pl v x k n q).0 in omega arith
