-- Words of an image and the bytes that they stand for: a value in the image is a part of the image's bytes.
-- Assumes nothing.
use mathlib.Core.Path.{◌≡◌, refl, sym, ◌∙◌, ap}
use mathlib.Core.List.{List, [], ◌∷◌, ◌++◌}
use Prim.Native.Nat.{ℕ, zero, suc, ◌+◌, ◌*◌, ◌/◌, ◌≤◌}
use native.Mathlib.Omega.{arith}
use native.Mathlib.Nat.{zero-add}
use lib.ListN.{length, get_or, take, drop, length-drop}
use lib.Seq.{slice, take-add, take-take, drop-drop, get_or-drop}
use Rattle.spec.specs.Words.{AreBytes, word_at, words_from, words_of, eight_bytes, bytes_of, value_bytes}
use Rattle.words.proofs.Values.{bytes-joined}

-- eight bytes at the head
eight-from : (l : List ℕ) → 8 ≤ length l → take 8 l ≡ get_or l 0 0 ∷ get_or l 1 0 ∷ get_or l 2 0 ∷ get_or l 3 0 ∷ get_or l 4 0 ∷ get_or l 5 0 ∷ get_or l 6 0 ∷ get_or l 7 0 ∷ []
eight-from (a ∷ b ∷ c ∷ d ∷ e ∷ f ∷ g ∷ h ∷ l) n = refl
eight-from [] n = absurd (omega arith)
eight-from (a ∷ []) n = absurd (omega arith)
eight-from (a ∷ b ∷ []) n = absurd (omega arith)
eight-from (a ∷ b ∷ c ∷ []) n = absurd (omega arith)
eight-from (a ∷ b ∷ c ∷ d ∷ []) n = absurd (omega arith)
eight-from (a ∷ b ∷ c ∷ d ∷ e ∷ []) n = absurd (omega arith)
eight-from (a ∷ b ∷ c ∷ d ∷ e ∷ f ∷ []) n = absurd (omega arith)
eight-from (a ∷ b ∷ c ∷ d ∷ e ∷ f ∷ g ∷ []) n = absurd (omega arith)

-- the bytes of one word, and of n words from word i
pub bytes-word_at : (xs : List ℕ) (w : ℕ) → 8 * w + 8 ≤ length xs → AreBytes xs → eight_bytes (word_at xs w) ≡ take 8 (drop (8 * w) xs)
unfolding word_at
bytes-word_at xs w h small =
    let z : 8 * w + 0 ≡ 8 * w = omega arith in
    let l : 8 ≤ length (drop (8 * w) xs) = rw length-drop (omega arith) in
    bytes-joined (get_or xs (8 * w) 0) (get_or xs (8 * w + 1) 0) (get_or xs (8 * w + 2) 0) (get_or xs (8 * w + 3) 0)
    (get_or xs (8 * w + 4) 0) (get_or xs (8 * w + 5) 0) (get_or xs (8 * w + 6) 0) (get_or xs (8 * w + 7) 0)
    (small (8 * w)) (small (8 * w + 1)) (small (8 * w + 2)) (small (8 * w + 3)) (small (8 * w + 4)) (small (8 * w + 5)) (small (8 * w + 6)) (small (8 * w + 7))
    ∙ sym (eight-from (drop (8 * w) xs) l ∙ simp (get_or-drop, z))

pub bytes-words_from : (n i : ℕ) (xs : List ℕ) → 8 * (i + n) ≤ length xs → AreBytes xs → bytes_of (words_from n i xs) ≡ take (8 * n) (drop (8 * i) xs)
bytes-words_from zero i xs h small = refl
bytes-words_from (suc n) i xs h small =
    let m : 8 * suc n ≡ 8 + 8 * n = omega arith in
    let d : 8 * suc i ≡ 8 * i + 8 = omega arith in
    let r = bytes-words_from n (suc i) xs (omega arith) small in
    ap (λ (l : List ℕ). l ++ bytes_of (words_from n (suc i) xs)) (bytes-word_at xs i (omega arith) small)
    ∙ ap (λ (l : List ℕ). take 8 (drop (8 * i) xs) ++ l) r
    ∙ rw (m, take-add 8 (8 * n) (drop (8 * i) xs), drop-drop 8 (8 * i) xs, ← d)

-- a part of the list of words
take-words_from : (m n i : ℕ) (xs : List ℕ) → m ≤ n → take m (words_from n i xs) ≡ words_from m i xs
take-words_from zero n i xs h = refl
take-words_from (suc m) zero i xs h = absurd (omega arith)
take-words_from (suc m) (suc n) i xs h = ap (word_at xs i ∷◌) (take-words_from m n (suc i) xs (omega arith))

drop-words_from : (m n i : ℕ) (xs : List ℕ) → drop m (words_from (m + n) i xs) ≡ words_from n (m + i) xs
drop-words_from zero n i xs = rw (zero-add n, zero-add i)
drop-words_from (suc m) n i xs =
    let a : suc m + n ≡ suc (m + n) = omega arith in
    let b : suc m + i ≡ m + suc i = omega arith in
    rw (a, b) (drop-words_from m n (suc i) xs)

pub slice-words_of : (xs : List ℕ) (a k : ℕ) → a + k ≤ length xs / 8 → slice a (a + k) (words_of xs) ≡ words_from k a xs
unfolding words_of
slice-words_of xs a k h =
    let z : a + 0 ≡ a = omega arith in
    ap (drop a) (take-words_from (a + k) (length xs / 8) 0 xs h) ∙ drop-words_from a k 0 xs ∙ rw z

-- the value of n bytes whose words start at word a
pub value-part : (xs : List ℕ) (a n : ℕ) → AreBytes xs → a + (n + 7) / 8 ≤ length xs / 8
    → take n (drop (8 * a) xs) ≡ value_bytes n (slice a (a + (n + 7) / 8) (words_of xs))
value-part xs a n small h =
    let k = (n + 7) / 8 in
    sym (ap (value_bytes n) (slice-words_of xs a k h)
    ∙ ap (take n) (bytes-words_from k a xs (omega arith) small)
    ∙ take-take n (8 * k) (drop (8 * a) xs) (omega arith))
