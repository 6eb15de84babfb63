-- A value's bytes and its words: each word of the packed bytes, and the bytes of packed words again.
-- Assumes nothing.
use mathlib.Core.Path.{◌≡◌, refl, sym, ◌∙◌, ap}
use mathlib.Core.Bool.{true}
use mathlib.Core.List.{List, [], ◌∷◌, ◌++◌}
use Prim.Native.Nat.{ℕ, zero, suc, ◌+◌, ◌*◌, ◌/◌, ◌%◌, ◌^◌, ◌<◌, ◌≤◌}
use native.Mathlib.Omega.{arith}
use lib.Dec.{eqb, ltb}
use lib.ListN.{length, get_or, take, drop, get_or-eq_default}
use lib.Seq.{get_or-drop}
use Rattle.std.proofs.lemmas.Bool.Decides.{nat_tests}
use Rattle.spec.specs.Basics.{pick}
use Rattle.spec.specs.Words.{AreBytes, joined, word_at, packed, eight_bytes, bytes_of, value_bytes}

-- the last word of a value of n bytes is zero-filled
abbrev pub Filled : ℕ → List ℕ → Type 0
Filled n ws = (n % 8 ≡ 0 → ⊥) → get_or ws (n / 8) 0 < 256 ^ (n % 8)

tail : (a b c d e f g h : ℕ) (rest : List ℕ) → AreBytes (a ∷ b ∷ c ∷ d ∷ e ∷ f ∷ g ∷ h ∷ rest) → AreBytes rest
tail a b c d e f g h rest small i = small (suc (suc (suc (suc (suc (suc (suc (suc i))))))))

-- the bytes of eight joined bytes
pub bytes-joined : (b0 b1 b2 b3 b4 b5 b6 b7 : ℕ) → b0 < 256 → b1 < 256 → b2 < 256 → b3 < 256 → b4 < 256 → b5 < 256 → b6 < 256 → b7 < 256
    → eight_bytes (joined b0 b1 b2 b3 b4 b5 b6 b7) ≡ b0 ∷ b1 ∷ b2 ∷ b3 ∷ b4 ∷ b5 ∷ b6 ∷ b7 ∷ []
bytes-joined b0 b1 b2 b3 b4 b5 b6 b7 h0 h1 h2 h3 h4 h5 h6 h7 = grind arith

-- a word past the first, and of no bytes
pub word_at-drop : (xs : List ℕ) (i : ℕ) → word_at xs (suc i) ≡ word_at (drop 8 xs) i
unfolding word_at
word_at-drop xs i =
    let e0 : 8 + 8 * i ≡ 8 * suc i = omega arith in
    let e1 : 8 + (8 * i + 1) ≡ 8 * suc i + 1 = omega arith in
    let e2 : 8 + (8 * i + 2) ≡ 8 * suc i + 2 = omega arith in
    let e3 : 8 + (8 * i + 3) ≡ 8 * suc i + 3 = omega arith in
    let e4 : 8 + (8 * i + 4) ≡ 8 * suc i + 4 = omega arith in
    let e5 : 8 + (8 * i + 5) ≡ 8 * suc i + 5 = omega arith in
    let e6 : 8 + (8 * i + 6) ≡ 8 * suc i + 6 = omega arith in
    let e7 : 8 + (8 * i + 7) ≡ 8 * suc i + 7 = omega arith in
    sym (simp (get_or-drop, e0, e1, e2, e3, e4, e5, e6, e7))

word_at-none : (xs : List ℕ) (i : ℕ) → drop 8 xs ≡ [] → 0 ≡ word_at xs (suc i)
unfolding word_at
word_at-none xs i e = sym (word_at-drop xs i ∙ rw e)

pub length-packed : (xs : List ℕ) → length (packed xs) ≡ (length xs + 7) / 8
length-packed [] = refl
length-packed (a ∷ []) = refl
length-packed (a ∷ b ∷ []) = refl
length-packed (a ∷ b ∷ c ∷ []) = refl
length-packed (a ∷ b ∷ c ∷ d ∷ []) = refl
length-packed (a ∷ b ∷ c ∷ d ∷ e ∷ []) = refl
length-packed (a ∷ b ∷ c ∷ d ∷ e ∷ f ∷ []) = refl
length-packed (a ∷ b ∷ c ∷ d ∷ e ∷ f ∷ g ∷ []) = refl
length-packed (a ∷ b ∷ c ∷ d ∷ e ∷ f ∷ g ∷ h ∷ rest) = let q = length-packed rest in omega arith

pub get_or-packed : (xs : List ℕ) (i : ℕ) → get_or (packed xs) i 0 ≡ word_at xs i
unfolding word_at
get_or-packed [] i = refl
get_or-packed (a ∷ []) zero = refl
get_or-packed (a ∷ []) (suc i) = word_at-none (a ∷ []) i refl
get_or-packed (a ∷ b ∷ []) zero = refl
get_or-packed (a ∷ b ∷ []) (suc i) = word_at-none (a ∷ b ∷ []) i refl
get_or-packed (a ∷ b ∷ c ∷ []) zero = refl
get_or-packed (a ∷ b ∷ c ∷ []) (suc i) = word_at-none (a ∷ b ∷ c ∷ []) i refl
get_or-packed (a ∷ b ∷ c ∷ d ∷ []) zero = refl
get_or-packed (a ∷ b ∷ c ∷ d ∷ []) (suc i) = word_at-none (a ∷ b ∷ c ∷ d ∷ []) i refl
get_or-packed (a ∷ b ∷ c ∷ d ∷ e ∷ []) zero = refl
get_or-packed (a ∷ b ∷ c ∷ d ∷ e ∷ []) (suc i) = word_at-none (a ∷ b ∷ c ∷ d ∷ e ∷ []) i refl
get_or-packed (a ∷ b ∷ c ∷ d ∷ e ∷ f ∷ []) zero = refl
get_or-packed (a ∷ b ∷ c ∷ d ∷ e ∷ f ∷ []) (suc i) = word_at-none (a ∷ b ∷ c ∷ d ∷ e ∷ f ∷ []) i refl
get_or-packed (a ∷ b ∷ c ∷ d ∷ e ∷ f ∷ g ∷ []) zero = refl
get_or-packed (a ∷ b ∷ c ∷ d ∷ e ∷ f ∷ g ∷ []) (suc i) = word_at-none (a ∷ b ∷ c ∷ d ∷ e ∷ f ∷ g ∷ []) i refl
get_or-packed (a ∷ b ∷ c ∷ d ∷ e ∷ f ∷ g ∷ h ∷ rest) zero = refl
get_or-packed (a ∷ b ∷ c ∷ d ∷ e ∷ f ∷ g ∷ h ∷ rest) (suc i) =
    get_or-packed rest i ∙ sym (word_at-drop (a ∷ b ∷ c ∷ d ∷ e ∷ f ∷ g ∷ h ∷ rest) i)

pub get_or-packed-past : (xs : List ℕ) (i : ℕ) → (length xs + 7) / 8 ≤ i → get_or (packed xs) i 0 ≡ 0
get_or-packed-past xs i h = get_or-eq_default (packed xs) 0 (rw length-packed h)

-- decoding what was encoded: the bytes again
pub bytes_packed : (xs : List ℕ) → AreBytes xs → value_bytes (length xs) (packed xs) ≡ xs
bytes_packed [] s = refl
bytes_packed (a ∷ []) s = ap (take 1) (bytes-joined a 0 0 0 0 0 0 0 (s 0) (s 1) (s 2) (s 3) (s 4) (s 5) (s 6) (s 7))
bytes_packed (a ∷ b ∷ []) s = ap (take 2) (bytes-joined a b 0 0 0 0 0 0 (s 0) (s 1) (s 2) (s 3) (s 4) (s 5) (s 6) (s 7))
bytes_packed (a ∷ b ∷ c ∷ []) s = ap (take 3) (bytes-joined a b c 0 0 0 0 0 (s 0) (s 1) (s 2) (s 3) (s 4) (s 5) (s 6) (s 7))
bytes_packed (a ∷ b ∷ c ∷ d ∷ []) s = ap (take 4) (bytes-joined a b c d 0 0 0 0 (s 0) (s 1) (s 2) (s 3) (s 4) (s 5) (s 6) (s 7))
bytes_packed (a ∷ b ∷ c ∷ d ∷ e ∷ []) s = ap (take 5) (bytes-joined a b c d e 0 0 0 (s 0) (s 1) (s 2) (s 3) (s 4) (s 5) (s 6) (s 7))
bytes_packed (a ∷ b ∷ c ∷ d ∷ e ∷ f ∷ []) s = ap (take 6) (bytes-joined a b c d e f 0 0 (s 0) (s 1) (s 2) (s 3) (s 4) (s 5) (s 6) (s 7))
bytes_packed (a ∷ b ∷ c ∷ d ∷ e ∷ f ∷ g ∷ []) s = ap (take 7) (bytes-joined a b c d e f g 0 (s 0) (s 1) (s 2) (s 3) (s 4) (s 5) (s 6) (s 7))
bytes_packed (a ∷ b ∷ c ∷ d ∷ e ∷ f ∷ g ∷ h ∷ rest) s =
    ap (λ (l : List ℕ). take (length (a ∷ b ∷ c ∷ d ∷ e ∷ f ∷ g ∷ h ∷ rest)) (l ++ bytes_of (packed rest)))
    (bytes-joined a b c d e f g h (s 0) (s 1) (s 2) (s 3) (s 4) (s 5) (s 6) (s 7))
    ∙ ap (λ (l : List ℕ). a ∷ b ∷ c ∷ d ∷ e ∷ f ∷ g ∷ h ∷ l) (bytes_packed rest (tail a b c d e f g h rest s))

-- the same as a test: of a last word that is not whole, the bytes behind the value are 0
pub filled_of : (n : ℕ) (ws : List ℕ) → pick (eqb (n % 8) 0) true (ltb (get_or ws (n / 8) 0) (256 ^ (n % 8))) ≡ true → Filled n ws
filled_of n ws t ne = grind (arith, nat_tests)

pub filled-test : (n : ℕ) (ws : List ℕ) → Filled n ws → pick (eqb (n % 8) 0) true (ltb (get_or ws (n / 8) 0) (256 ^ (n % 8))) ≡ true
filled-test n ws f = grind (arith, nat_tests, f)

pub packed-filled : (xs : List ℕ) → AreBytes xs → Filled (length xs) (packed xs)
packed-filled [] s ne = absurd (ne refl)
packed-filled (a ∷ []) s ne = omega (arith, s 0)
packed-filled (a ∷ b ∷ []) s ne = omega (arith, s 0, s 1)
packed-filled (a ∷ b ∷ c ∷ []) s ne = omega (arith, s 0, s 1, s 2)
packed-filled (a ∷ b ∷ c ∷ d ∷ []) s ne = omega (arith, s 0, s 1, s 2, s 3)
packed-filled (a ∷ b ∷ c ∷ d ∷ e ∷ []) s ne = omega (arith, s 0, s 1, s 2, s 3, s 4)
packed-filled (a ∷ b ∷ c ∷ d ∷ e ∷ f ∷ []) s ne = omega (arith, s 0, s 1, s 2, s 3, s 4, s 5)
packed-filled (a ∷ b ∷ c ∷ d ∷ e ∷ f ∷ g ∷ []) s ne = omega (arith, s 0, s 1, s 2, s 3, s 4, s 5, s 6)
packed-filled (a ∷ b ∷ c ∷ d ∷ e ∷ f ∷ g ∷ h ∷ rest) s ne =
    let n = length rest in
    let q : suc (suc (suc (suc (suc (suc (suc (suc n))))))) / 8 ≡ suc (n / 8) = omega arith in
    let r : suc (suc (suc (suc (suc (suc (suc (suc n))))))) % 8 ≡ n % 8 = omega arith in
    rw (q, r) (packed-filled rest (tail a b c d e f g h rest s) (λ z. ne (r ∙ z)))

-- each byte of a value is one
pub bytes_of-bytes : (ws : List ℕ) → AreBytes (bytes_of ws)
bytes_of-bytes [] i = omega arith
bytes_of-bytes (w ∷ ws) zero = omega arith
bytes_of-bytes (w ∷ ws) (suc zero) = omega arith
bytes_of-bytes (w ∷ ws) (suc (suc zero)) = omega arith
bytes_of-bytes (w ∷ ws) (suc (suc (suc zero))) = omega arith
bytes_of-bytes (w ∷ ws) (suc (suc (suc (suc zero)))) = omega arith
bytes_of-bytes (w ∷ ws) (suc (suc (suc (suc (suc zero))))) = omega arith
bytes_of-bytes (w ∷ ws) (suc (suc (suc (suc (suc (suc zero)))))) = omega arith
bytes_of-bytes (w ∷ ws) (suc (suc (suc (suc (suc (suc (suc zero))))))) = omega arith
bytes_of-bytes (w ∷ ws) (suc (suc (suc (suc (suc (suc (suc (suc i)))))))) = bytes_of-bytes ws i
