-- Words of the record's buffer: a part of it split in two, and with words laid over it.
-- Assumes nothing.
use mathlib.Core.Path.{◌≡◌, refl, ◌∙◌, ap}
use mathlib.Core.List.{List, [], ◌∷◌, ◌++◌}
use Prim.Native.Nat.{ℕ, zero, suc, ◌+◌, ◌-◌, ◌≤◌, ◌<◌}
use native.Mathlib.Nat.{add-zero, zero-add}
use native.Mathlib.Omega.{arith}
use lib.ListN.{length, get_or}
use Rattle.session.specs.State.{buffer_part}
use Rattle.session.proofs.Part.{part-agree}
use Rattle.words.specs.Overlay.{overlay, get_or-overlay-outside, get_or-overlay-inside}

pub part-append : (b : List ℕ) (i m n : ℕ) → buffer_part b i (m + n) ≡ buffer_part b i m ++ buffer_part b (i + m) n
part-append b i zero n = rw (zero-add n, add-zero i)
part-append b i (suc m) n =
    let e : suc m + n ≡ suc (m + n) = omega arith in
    let f : i + suc m ≡ suc i + m = omega arith in
    rw (e, f) (ap (λ (l : List ℕ). get_or b i 0 ∷ l) (part-append b (suc i) m n))

-- what stands behind the words xs
pub part-behind : (b : List ℕ) (i n : ℕ) (xs ys : List ℕ) → buffer_part b i n ≡ xs ++ ys → buffer_part b (i + length xs) (n - length xs) ≡ ys
part-behind b i n [] ys e = let z : n - 0 ≡ n = omega arith in rw (add-zero i, z) e
part-behind b i zero (x ∷ xs) ys e = absurd (let q = ap length e in omega arith)
part-behind b i (suc n) (x ∷ xs) ys e =
    let f : i + suc (length xs) ≡ suc i + length xs = omega arith in
    let g : suc n - suc (length xs) ≡ n - length xs = omega arith in
    rw (f, g) (part-behind b (suc i) n xs ys cc)

-- the words laid over the buffer, where all have room
part-laid : (b xs : List ℕ) (i : ℕ) → ((k j : ℕ) → j ≡ i + k → k < length xs → get_or b j 0 ≡ get_or xs k 0) → buffer_part b i (length xs) ≡ xs
part-laid b [] i h = refl
part-laid b (x ∷ xs) i h =
    let q = h 0 i (omega arith) (omega arith) in
    let r = part-laid b xs (suc i) (λ k j e l. h (suc k) j (omega arith) (omega arith)) in
    cc

pub part-overlay : (b xs : List ℕ) (at : ℕ) → at + length xs ≤ length b → buffer_part (overlay b at xs) 0 (at + length xs) ≡ buffer_part b 0 at ++ xs
part-overlay b xs at h =
    let front = part-agree (overlay b at xs) b 0 at (λ j l u. get_or-overlay-outside xs b at j (λ p q. omega arith)) in
    let back = part-laid (overlay b at xs) xs at (λ k j e l. get_or-overlay-inside xs b at k j e l (omega arith)) in
    part-append (overlay b at xs) 0 at (length xs) ∙ rw (zero-add at, front, back)
