-- The image's bytes after a store of a word, and the laws of such a store: the word is read back, every other is as it
-- was, and the image is as long.
-- Assumes nothing.
use Rattle.std.specs.Prelude.{◌≡◌, refl, List, ℕ, ◌+◌, ◌*◌, ◌/◌, ◌%◌, ◌^◌, ◌<◌, ◌≤◌, length, get_or, set}
use Rattle.std.proofs.Common.{arith}
use Rattle.spec.specs.Words.{joined, word_at, eight_bytes}
use Rattle.words.specs.Overlay.{overlay, length-overlay, get_or-overlay-outside, get_or-overlay-inside}

-- the bytes with the word w set to v
unfoldable pub set_word : List ℕ → ℕ → ℕ → List ℕ
set_word xs w v = overlay xs (8 * w) (eight_bytes v)

-- the same, store by store
pub set_word-stores : (xs : List ℕ) (w v : ℕ) →
    set (set (set (set (set (set (set (set xs
    (8 * w) (v % 256))
    (8 * w + 1) (v / 0x100 % 256))
    (8 * w + 2) (v / 0x1_0000 % 256))
    (8 * w + 3) (v / 0x100_0000 % 256))
    (8 * w + 4) (v / 0x1_0000_0000 % 256))
    (8 * w + 5) (v / 0x100_0000_0000 % 256))
    (8 * w + 6) (v / 0x1_0000_0000_0000 % 256))
    (8 * w + 7) (v / 0x100_0000_0000_0000 % 256) ≡ set_word xs w v
unfolding set_word
set_word-stores xs w v = grind arith

pub set_word-length : (xs : List ℕ) (w v : ℕ) → length (set_word xs w v) ≡ length xs
unfolding set_word
set_word-length xs w v = length-overlay xs (8 * w) (eight_bytes v)

-- a byte outside the word
pub set_word-byte : (xs : List ℕ) (w v i : ℕ) → (8 * w ≤ i → i < 8 * w + 8 → ⊥) → get_or (set_word xs w v) i 0 ≡ get_or xs i 0
unfolding set_word
set_word-byte xs w v i out = get_or-overlay-outside (eight_bytes v) xs (8 * w) i out

-- every other word is as it was
pub set_word-other : (xs : List ℕ) (w v u : ℕ) → (u ≡ w → ⊥) → word_at (set_word xs w v) u ≡ word_at xs u
unfolding word_at
set_word-other xs w v u ne = grind (arith, set_word-byte)

-- a number from its bytes: each rest is a byte and 256 times the next rest
chain : (v q1 q2 q3 q4 q5 q6 q7 b0 b1 b2 b3 b4 b5 b6 b7 : ℕ) → v ≡ b0 + 256 * q1 → q1 ≡ b1 + 256 * q2 → q2 ≡ b2 + 256 * q3 → q3 ≡ b3 + 256 * q4
    → q4 ≡ b4 + 256 * q5 → q5 ≡ b5 + 256 * q6 → q6 ≡ b6 + 256 * q7 → q7 ≡ b7 → joined b0 b1 b2 b3 b4 b5 b6 b7 ≡ v
chain v q1 q2 q3 q4 q5 q6 q7 b0 b1 b2 b3 b4 b5 b6 b7 e0 e1 e2 e3 e4 e5 e6 e7 = omega arith

-- the eight bytes of a number make it again
pub joined_bytes : (v : ℕ) → v < 2 ^ 64 →
    joined (v % 256) (v / 0x100 % 256) (v / 0x1_0000 % 256) (v / 0x100_0000 % 256)
    (v / 0x1_0000_0000 % 256) (v / 0x100_0000_0000 % 256) (v / 0x1_0000_0000_0000 % 256) (v / 0x100_0000_0000_0000 % 256) ≡ v
joined_bytes v h = omega arith

-- the word is read back
pub set_word-same : (xs : List ℕ) (w v : ℕ) → 8 * w + 8 ≤ length xs → v < 2 ^ 64 → word_at (set_word xs w v) w ≡ v
unfolding word_at set_word
set_word-same xs w v h small =
    let g0 = get_or-overlay-inside (eight_bytes v) xs (8 * w) 0 (8 * w) (omega arith) (omega arith) (omega arith) in
    let g1 = get_or-overlay-inside (eight_bytes v) xs (8 * w) 1 (8 * w + 1) refl (omega arith) (omega arith) in
    let g2 = get_or-overlay-inside (eight_bytes v) xs (8 * w) 2 (8 * w + 2) refl (omega arith) (omega arith) in
    let g3 = get_or-overlay-inside (eight_bytes v) xs (8 * w) 3 (8 * w + 3) refl (omega arith) (omega arith) in
    let g4 = get_or-overlay-inside (eight_bytes v) xs (8 * w) 4 (8 * w + 4) refl (omega arith) (omega arith) in
    let g5 = get_or-overlay-inside (eight_bytes v) xs (8 * w) 5 (8 * w + 5) refl (omega arith) (omega arith) in
    let g6 = get_or-overlay-inside (eight_bytes v) xs (8 * w) 6 (8 * w + 6) refl (omega arith) (omega arith) in
    let g7 = get_or-overlay-inside (eight_bytes v) xs (8 * w) 7 (8 * w + 7) refl (omega arith) (omega arith) in
    simp (g0, g1, g2, g3, g4, g5, g6, g7) (joined_bytes v small)
