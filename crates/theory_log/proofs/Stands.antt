-- A parsed entry's words stand at its place: look-up reads them there, cleaning copies them.
-- Assumes nothing.
use Rattle.std.proofs.lemmas.Bool.Decides.{nat_tests}
use mathlib.Core.Path.{◌≡◌, refl, sym, ◌∙◌, ap}
use mathlib.Core.Logic.{◌⊎◌, inl, inr}
use mathlib.Core.List.{List, [], ◌∷◌}
use Prim.Native.Nat.{ℕ, zero, suc, ◌+◌, ◌-◌, ◌*◌, ◌<◌, ◌≤◌, min}
use native.Mathlib.Omega.{arith}
use lib.ListN.{length, get_or, take, drop, length-take, length-drop}
use lib.Seq.{slice, drop-drop, ext_get_or, get_or-take, get_or-drop}
use Rattle.spec.specs.declared.FirstWord.TheVariants as F
use Rattle.spec.specs.declared.LogStep.{LogStep}
use Rattle.spec.specs.declared.LogStep.TheVariants as S
use Rattle.spec.specs.Log.{first_of_word, step_of, Entry, Entries, after, parse, encode, chunk_entries, all_from}
use Rattle.spec.specs.Places.{base}
use Rattle.spec.specs.Directory.{lines_of}
use Rattle.theory_log.specs.Contents.{Mem}
use Rattle.theory_log.proofs.Parse.{Found, found, cons_inv}
use Rattle.theory_log.proofs.Contents.{mem-cases}
use Rattle.theory_log.proofs.Image.{Joined, join-inv}

-- the fields say all of the first word
pub head_first : (w op pl v x : ℕ) → first_of_word w ≡ F.Entry op pl v x → op + 4 * pl + 16 * v + 16777216 * x ≡ w
unfolding first_of_word
head_first w op pl v x h = grind (arith, nat_tests)

pub record Stands (l : List ℕ) (at : ℕ) (e : Entry) : Type 0 where
  pub off : ℕ
  pub place : e.at ≡ at + off
  pub words : take (2 + length e.value) (drop off l) ≡ encode e

later : (w : ℕ) (ws : List ℕ) (at : ℕ) (e : Entry) → Stands ws (suc at) e → Stands (w ∷ ws) at e
later w ws at e s = let p = s.place in record { off = suc s.off; place = omega arith; words = s.words }

head-words : (w k n : ℕ) (ws : List ℕ) → suc n ≤ length ws → get_or ws 0 0 ≡ k → take (2 + n) (w ∷ ws) ≡ w ∷ k ∷ take n (drop 1 ws)
head-words w k n [] h e = absurd (omega arith)
head-words w k n (x ∷ ws) h e = let p : 2 + n ≡ suc (suc n) = omega arith in rw (p, e)

pub parse-stands : (l : List ℕ) (skip at : ℕ) (es : List Entry) (e : Entry) → parse l skip at ≡ Entries es → Mem e es → Stands l at e
parse-stands [] skip at es e h m = absurd (let q : [] ≡ es = cc in (rw (← q) at m))
parse-stands (w ∷ ws) (suc n) at es e h m = later w ws at e (parse-stands ws n (suc at) es e h m)
parse-stands (w ∷ ws) zero at es e h m = go (step_of (w ∷ ws)) refl h (λ n fs. parse-stands ws n (suc at) fs e)
  where
    go : (s : LogStep) → step_of (w ∷ ws) ≡ s → after s (w ∷ ws) at (λ n. parse ws n (suc at)) ≡ Entries es
        → ((n : ℕ) (fs : List Entry) → parse ws n (suc at) ≡ Entries fs → Mem e fs → Stands ws (suc at) e) → Stands (w ∷ ws) at e
    go S.End q a rec = absurd (let r : [] ≡ es = cc in (rw (← r) at m))
    go S.Wrong q a rec = absurd (let z : ◌≡◌ {A = ℕ} 0 1 = cc in omega arith)
    go S.Padding q a rec = later w ws at e (rec 0 es a m)
    go (S.Entry op pl v x k n) q a rec = two (rw c.2 at m)
      where
        first : Entry
        first = record { op = op; placement = pl; version = v; field = x; key = k; value = take n (drop 1 ws); at = at }

        c : (fs : List Entry) × (parse ws (suc n) (suc at) ≡ Entries fs) × (es ≡ first ∷ fs)
        c = cons_inv first (parse ws (suc n) (suc at)) es a

        f : Found op pl v x k n w ws
        f = found op pl v x k n w ws q

        here : Stands (w ∷ ws) at first
        here =
            let m' : suc n ≤ length ws = f.fits in
            let len : length (take n (drop 1 ws)) ≡ n = rw (length-take, length-drop) (omega arith) in
            record { off = 0; place = omega arith; words = rw (len, head_first w op pl v x f.first) (head-words w k n ws m' f.key) }

        two : (e ≡ first) ⊎ Mem e c.0 → Stands (w ∷ ws) at e
        two (inl r) = rw r here
        two (inr r) = later w ws at e (rec (suc n) c.0 c.1 r)

-- in the whole image
slice-words : (at end m : ℕ) (ws es : List ℕ) → length es ≡ m → take m (slice at end ws) ≡ es → take m (drop at ws) ≡ es
slice-words at end m ws es n h =
    let l : length (take m (slice at end ws)) ≡ m = ap length h ∙ n in
    let k : min m (min end (length ws) - at) ≡ m = rw (length-take, length-drop, length-take) at l in
    sym (ext_get_or 0 (take m (slice at end ws)) (take m (drop at ws)) (rw (length-take, length-drop, length-take, length-take, length-drop) (omega arith)) each) ∙ h
  where
    each : (i : ℕ) → i < length (take m (slice at end ws)) → get_or (take m (slice at end ws)) i 0 ≡ get_or (take m (drop at ws)) i 0
    each i u =
        let l : length (take m (slice at end ws)) ≡ min m (min end (length ws) - at) = rw (length-take, length-drop, length-take) in
        rw (get_or-take m (slice at end ws) i 0 (omega arith), get_or-take m (drop at ws) i 0 (omega arith), get_or-drop at (take end ws) i 0, get_or-drop at ws i 0, get_or-take end ws (at + i) 0 (omega arith))

pub all-stands : (p n c : ℕ) (ws : List ℕ) (es : List Entry) (e : Entry) → all_from p n c ws ≡ Entries es → Mem e es → take (2 + length e.value) (drop e.at ws) ≡ encode e
all-stands p zero c ws es e h m = absurd (let q : [] ≡ es = cc in (rw (← q) at m))
all-stands p (suc n) c ws es e h m = go (join-inv (chunk_entries p ws c) (all_from p n (suc c) ws) es h) (λ fs. all-stands p n (suc c) ws fs e)
  where
    go : Joined (chunk_entries p ws c) (all_from p n (suc c) ws) es → ((fs : List Entry) → all_from p n (suc c) ws ≡ Entries fs → Mem e fs → take (2 + length e.value) (drop e.at ws) ≡ encode e)
        → take (2 + length e.value) (drop e.at ws) ≡ encode e
    go j rec = two (mem-cases e j.left j.right (rw j.whole at m))
      where
        end : ℕ
        end = base p c + 8 * lines_of p ws c

        two : Mem e j.left ⊎ Mem e j.right → take (2 + length e.value) (drop e.at ws) ≡ encode e
        two (inr r) = rec j.right j.is_right r
        two (inl r) =
            let s = parse-stands (slice (base p c) end ws) 0 (base p c) j.left e j.is-left r in
            let d : take (2 + length e.value) (slice (base p c + s.off) end ws) ≡ encode e = rw (drop-drop s.off (base p c) (take end ws)) at s.words in
            let g = slice-words (base p c + s.off) end (2 + length e.value) ws (encode e) (omega arith) d in
            ap (λ (a : ℕ). take (2 + length e.value) (drop a ws)) s.place ∙ g
