-- The entries of an image stand in its words: those that a walk finds, and those of the parsed list.
-- Assumes nothing.
use mathlib.Core.Path.{◌≡◌, sym, ◌∙◌, ap}
use mathlib.Core.Bool.{true}
use mathlib.Core.List.{List, [], ◌∷◌}
use Prim.Native.Nat.{ℕ, zero, suc, ◌+◌, ◌-◌, ◌<◌, ◌≤◌, min}
use native.Mathlib.Nat.{zero-add, suc-add}
use native.Mathlib.Omega.{arith}
use lib.ListN.{length, get_or, take, drop, length-take, length-drop, take-append-drop}
use lib.Seq.{slice, take-nil, drop-cons, drop-drop, get_or-take, get_or-drop, length-slice}
use Rattle.spec.specs.declared.LogStep.TheVariants as S
use Rattle.spec.specs.Places.{base}
use Rattle.spec.specs.Log.{Entry, Entries, words_for, filled, step_of, head_of, encode, image_entries}
use Rattle.theory_log.specs.Batch.{Right}
use Rattle.theory_log.specs.Contents.{Mem, Apart}
use Rattle.theory_log.proofs.Parse.{Found, found, filled-append}
use Rattle.theory_log.proofs.Walk.{slice-head, slice_at, fill-at, room-entry}
use Rattle.theory_log.proofs.Batch.{first-right}
use Rattle.theory_log.proofs.Stands.{head_first, all-stands}
use Rattle.theory_log.proofs.Places.{Sound, all_sound, first-inv, right-in, rising-in, rising-apart}
use Rattle.theory_base.proofs.Places.{past-directory}
use Rattle.logs.specs.Stands.{entry_in, StandsIn}

pub take-drop : (m n : ℕ) (l : List ℕ) → take n (drop m l) ≡ slice m (m + n) l
take-drop zero n l = rw zero-add
take-drop (suc m) n [] = take-nil n ∙ rw suc-add
take-drop (suc m) n (x ∷ l) = rw suc-add (take-drop m n l)

-- an entry stands where its words are
pub words-stand : (ws : List ℕ) (e : Entry) → Right e → take (2 + length e.value) (drop e.at ws) ≡ encode e → StandsIn ws e
words-stand ws e r h =
    let at = e.at in
    let n = words_for e.placement e.field in
    let m : length e.value ≡ n = r.words in
    let t : take (2 + n) (drop at ws) ≡ encode e = rw m at h in
    let own : length (take (2 + n) (drop at ws)) ≡ 2 + n = ap length t ∙ omega arith in
    let fits : at + (2 + n) ≤ length ws = (let q : min (2 + n) (length ws - at) ≡ 2 + n = rw (length-take, length-drop) at own in omega arith) in
    let word : (i : ℕ) → i < 2 + n → get_or ws (at + i) 0 ≡ get_or (encode e) i 0 = λ i l. sym (get_or-drop at ws i 0) ∙ sym (get_or-take (2 + n) (drop at ws) i 0 l) ∙ ap (λ (xs : List ℕ). get_or xs i 0) t in
    let z : at + 0 ≡ at = omega arith in
    let head : get_or ws at 0 ≡ head_of e = rw z at (word 0 (omega arith)) in
    record {
      right = r;
      first = rw head (first-right e.op e.placement e.version e.field r.kind r.low r.high);
      key = word 1 (omega arith);
      value = sym (sym (take-drop (at + 2) n ws) ∙ ap (take n) (sym (drop-drop 2 at ws)) ∙ take-drop 2 n (drop at ws) ∙ ap (drop 2) t);
      fits = fits;
      fill = rw (← take-append-drop (2 + n) (drop at ws)) (filled-append e.placement e.field (take (2 + n) (drop at ws)) (drop (2 + n) (drop at ws)) (omega arith) ∙ rw t r.fill);
      words = t;
    }

-- what the walk finds at a place stands there
pub found-stands : (ws : List ℕ) (at end op pl v x k n : ℕ) → step_of (slice at end ws) ≡ S.Entry op pl v x k n
    → (n ≡ words_for pl x) × StandsIn ws (entry_in ws op pl v x k n at)
found-stands ws at end op pl v x k n q = (sym f.words, words-stand ws e right (rw size cut))
  where
    e : Entry
    e = entry_in ws op pl v x k n at

    room : (at + (2 + n) ≤ end) × (at + (2 + n) ≤ length ws)
    room = room-entry ws at end op pl v x k n q

    head : slice at end ws ≡ get_or ws at 0 ∷ slice (suc at) end ws
    head = let r = room in slice-head at end ws (omega arith) (omega arith)

    f : Found op pl v x k n (get_or ws at 0) (slice (suc at) end ws)
    f = found op pl v x k n (get_or ws at 0) (slice (suc at) end ws) (rw head at q)

    size : length e.value ≡ n
    size = let r = room in length-slice (at + 2) (at + 2 + n) ws (omega arith) ∙ omega arith

    cut : take (2 + n) (drop at ws) ≡ encode e
    cut =
        let r = room in
        let s : 2 + n ≡ suc (suc n) = omega arith in
        let z : suc at + 0 ≡ suc at = omega arith in
        let b : suc (suc at) ≡ at + 2 = omega arith in
        let key : get_or ws (suc at) 0 ≡ k = rw z at (sym (slice_at (suc at) end ws 0 (omega arith)) ∙ f.key) in
        rw (drop-cons ws at 0 (omega arith), drop-cons ws (suc at) 0 (omega arith), s, key, b, take-drop (at + 2) n ws, head_first (get_or ws at 0) op pl v x f.first)

    right : Right e
    right =
        let r = room in
        let i = first-inv (get_or ws at 0) op pl v x f.first in
        let w = f.words in
        let own : length (take (2 + n) (drop at ws)) ≡ 2 + n = rw (length-take, length-drop) (omega arith) in
        let filled-here : filled pl x (drop at ws) ≡ true = sym (fill-at pl x at end ws (omega arith)) ∙ rw head f.fill in
        let apart = rw (← take-append-drop (2 + n) (drop at ws)) at filled-here in
        record {
          kind = i.0;
          low = i.1;
          high = i.2;
          words = size ∙ sym f.words;
          fill = rw cut at (sym (filled-append pl x (take (2 + n) (drop at ws)) (drop (2 + n) (drop at ws)) (omega arith)) ∙ apart);
        }

-- the entries of an image that parses
module _ (p : ℕ) (low : 12 ≤ p) (high : p ≤ 16) (n : ℕ) (ws : List ℕ) (es : List Entry) (h : image_entries p n ws ≡ Entries es) where
  sound : Sound (base p 1) (base p (1 + (n - 1))) es
  sound = all_sound p low high (n - 1) 1 ws es h

  pub image-right : (e : Entry) → Mem e es → Right e
  image-right e m = right-in es e sound.right m

  pub image-stands : (e : Entry) → Mem e es → StandsIn ws e
  image-stands e m = words-stand ws e (image-right e m) (all-stands p (n - 1) 1 ws es e h m)

  -- no entry stands in chunk 0, and no two at one place
  pub image-low : (e : Entry) → Mem e es → 512 ≤ e.at
  image-low e m = past-directory p low high 1 e.at (omega arith) (rising-in (base p 1) (base p (1 + (n - 1))) es e sound.rising m).0

  pub image-high : (e : Entry) → Mem e es → 1 ≤ n → e.at < base p n
  image-high e m l = let q : 1 + (n - 1) ≡ n = omega arith in rw q at (rising-in (base p 1) (base p (1 + (n - 1))) es e sound.rising m).1

  pub image-apart : Apart es
  image-apart = rising-apart (base p 1) (base p (1 + (n - 1))) es sound.rising
