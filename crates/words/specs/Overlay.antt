-- A list with another laid over it from a place on: what a run of stores leaves. What does not fit is dropped.
-- Assumes nothing.
use Rattle.std.specs.Prelude.{◌≡◌, refl, List, [], ◌∷◌, ◌++◌, ℕ, zero, suc, ◌+◌, ◌-◌, ◌<◌, ◌≤◌, length, get_or, set, take}
use Rattle.std.proofs.Common.{sym, ◌∙◌, arith, add-zero, add-one, length-set, get_or-set_same, get_or-set_other, take-suc, length-take-le, get_or-take, get_or-drop, ext_get_or}
use Rattle.std.proofs.lemmas.List.Edits.{sets}
use Rattle.std.proofs.Math.Seq.{length-sets, set_out, slice, length-slice}
use Rattle.std.proofs.lemmas.List.{take-set-le}

abbrev pub overlay : List ℕ → ℕ → List ℕ → List ℕ
overlay xs at ws = sets xs at ws

pub length-overlay : (xs : List ℕ) (at : ℕ) (ws : List ℕ) → length (overlay xs at ws) ≡ length xs
length-overlay xs at ws = length-sets xs at ws

-- outside the stores everything is as before
pub get_or-overlay-outside : (ws xs : List ℕ) (at j : ℕ) → (at ≤ j → j < at + length ws → ⊥) → get_or (overlay xs at ws) j 0 ≡ get_or xs j 0
get_or-overlay-outside [] xs at j out = refl
get_or-overlay-outside (w ∷ ws) xs at j out =
    get_or-overlay-outside ws (set xs at w) (suc at) j (λ a b. out (omega arith) (omega arith))
    ∙ get_or-set_other xs at j w 0 (λ e. out (omega arith) (omega arith))

-- inside stand the words
pub get_or-overlay-inside : (ws xs : List ℕ) (at k j : ℕ) → j ≡ at + k → k < length ws → j < length xs → get_or (overlay xs at ws) j 0 ≡ get_or ws k 0
get_or-overlay-inside [] xs at k j e h fits = absurd (omega arith)
get_or-overlay-inside (w ∷ ws) xs at zero j e h fits =
    let q : j ≡ at = omega arith in
    get_or-overlay-outside ws (set xs at w) (suc at) j (λ a b. omega arith)
    ∙ rw q (get_or-set_same xs at w 0 (omega arith))
get_or-overlay-inside (w ∷ ws) xs at (suc k) j e h fits =
    get_or-overlay-inside ws (set xs at w) (suc at) k j (omega arith) (omega arith) (rw length-set fits)

-- one word, no word, two runs of words one behind the other, and one word more
pub overlay-one : (xs : List ℕ) (at w : ℕ) → overlay xs at (w ∷ []) ≡ set xs at w
overlay-one xs at w = refl

pub overlay-append : (us ws xs : List ℕ) (at : ℕ) → overlay xs at (us ++ ws) ≡ overlay (overlay xs at us) (at + length us) ws
overlay-append [] ws xs at = rw add-zero
overlay-append (u ∷ us) ws xs at =
    let e : at + suc (length us) ≡ suc at + length us = omega arith in
    rw e (overlay-append us ws (set xs at u) (suc at))

pub overlay-next : (xs : List ℕ) (at : ℕ) (ws : List ℕ) (k : ℕ) → k < length ws → set (overlay xs at (take k ws)) (at + k) (get_or ws k 0) ≡ overlay xs at (take (suc k) ws)
overlay-next xs at ws k h =
    let n : length (take k ws) ≡ k = length-take-le k ws (omega arith) in
    sym (rw (take-suc ws k 0 h) (overlay-append (take k ws) (get_or ws k 0 ∷ []) xs at ∙ rw n))

-- a loop that stores word by word: one turn, and the end, where all are stored or as many as have room
pub overlay-turn : (xs now ws : List ℕ) (at i w : ℕ) → now ≡ overlay xs at (take i ws) → i < length ws → w ≡ get_or ws i 0
    → set now (at + i) w ≡ overlay xs at (take (i + 1) ws)
overlay-turn xs now ws at i w e h v = rw (e, v, add-one) (overlay-next xs at ws i h)

-- past the end nothing changes
pub overlay-past : (ws xs : List ℕ) (at : ℕ) → length xs ≤ at → overlay xs at ws ≡ xs
overlay-past [] xs at h = refl
overlay-past (w ∷ ws) xs at h = overlay-past ws (set xs at w) (suc at) (rw length-set (omega arith)) ∙ set_out xs at w h

-- the words before the stores, and those stored, where all fit
pub take-overlay : (ws xs : List ℕ) (at n : ℕ) → n ≤ at → take n (overlay xs at ws) ≡ take n xs
take-overlay [] xs at n h = refl
take-overlay (w ∷ ws) xs at n h = take-overlay ws (set xs at w) (suc at) n (omega arith) ∙ take-set-le n xs at w h

pub slice-overlay : (ws xs : List ℕ) (at : ℕ) → at + length ws ≤ length xs → slice at (at + length ws) (overlay xs at ws) ≡ ws
slice-overlay ws xs at h =
    let l : length (slice at (at + length ws) (overlay xs at ws)) ≡ at + length ws - at = length-slice at (at + length ws) (overlay xs at ws) (rw length-sets h) in
    ext_get_or 0 (slice at (at + length ws) (overlay xs at ws)) ws (omega arith)
    (λ i q. let q' : i < length ws = omega arith in
    get_or-drop at (take (at + length ws) (overlay xs at ws)) i 0
    ∙ get_or-take (at + length ws) (overlay xs at ws) (at + i) 0 (omega arith)
    ∙ get_or-overlay-inside ws xs at i (at + i) refl q' (omega arith))
