-- The laws of places, for chunks of 2^12 to 2^16 bytes: all that is known of a chunk's size.
-- Assumes nothing.
use Rattle.std.proofs.lemmas.Bool.Decides.{nat_tests}
use mathlib.Core.Bool.{Bool, true, false}
use mathlib.Core.Logic.{◌⊎◌, inl, inr, ⊎_elim}
use mathlib.Core.Path.{◌≡◌, refl, ap}
use Prim.Native.Nat.{ℕ, suc, ◌+◌, ◌-◌, ◌*◌, ◌/◌, ◌%◌, ◌^◌, ◌≤◌, ◌<◌}
use native.Mathlib.Omega.{arith}
use native.Mathlib.Decide.{ℕ_discrete, dec_lt}
use native.Mathlib.Nat.{zero-mul, mul-le-mul_right, suc-mul}
use lib.Dec.{eqb, leb}
use borrow.Author.Tests.{eqb-true, leb-true, le-leb}
use Rattle.spec.specs.Basics.{both, either}
use Rattle.theory_base.proofs.Lists.{both_l, both_r}
use Rattle.spec.specs.Places.{chunk_bytes, chunk_words, chunk_lines, chunk_units, base, first_line, first_unit, word_chunk, unit_chunk, unit_in, line_of, unit_word, chunks_in, length_allowed, size_allowed, any_allowed, is_power, base_power, large_power, max_chunks}

-- a fact of each of the five
pub each : (P : ℕ → Type 0) → P 12 → P 13 → P 14 → P 15 → P 16 → (p : ℕ) → 12 ≤ p → p ≤ 16 → P p
each P a b c d e p lo hi = grind (arith, nat_tests)

module _ (p : ℕ) (lo : 12 ≤ p) (hi : p ≤ 16) where
  -- Sizes.
  pub words-least : 512 ≤ chunk_words p
  unfolding chunk_words
  words-least = each (λ q. 512 ≤ 2 ^ (q - 3)) (omega arith) (omega arith) (omega arith) (omega arith) (omega arith) p lo hi

  pub words-most : chunk_words p ≤ 8192
  unfolding chunk_words
  words-most = each (λ q. 2 ^ (q - 3) ≤ 8192) (omega arith) (omega arith) (omega arith) (omega arith) (omega arith) p lo hi

  pub bytes-words : chunk_bytes p ≡ 8 * chunk_words p
  unfolding chunk_bytes chunk_words
  bytes-words = each (λ q. 2 ^ q ≡ 8 * 2 ^ (q - 3)) refl refl refl refl refl p lo hi

  pub lines-words : 8 * chunk_lines p ≡ chunk_words p
  unfolding chunk_words chunk_lines
  lines-words = each (λ q. 8 * 2 ^ (q - 6) ≡ 2 ^ (q - 3)) refl refl refl refl refl p lo hi

  pub units-words : 32 * chunk_units p ≡ chunk_words p
  unfolding chunk_words chunk_units
  units-words = each (λ q. 32 * 2 ^ (q - 8) ≡ 2 ^ (q - 3)) refl refl refl refl refl p lo hi

  pub lines-least : 64 ≤ chunk_lines p
  lines-least = let a = lines-words in let b = words-least in omega arith

  pub units-least : 16 ≤ chunk_units p
  units-least = let a = units-words in let b = words-least in omega arith

  pub units-most : chunk_units p ≤ 256
  units-most = let a = units-words in let b = words-most in omega arith

  -- The first word, line and unit of a chunk.
  pub base-zero : base p 0 ≡ 0
  unfolding base
  base-zero = zero-mul (chunk_words p)

  pub base-next : (c : ℕ) → base p (suc c) ≡ base p c + chunk_words p
  unfolding base
  base-next c = suc-mul c (chunk_words p)

  pub base-apart : (c d : ℕ) → c < d → base p c + chunk_words p ≤ base p d
  unfolding base
  base-apart c d h = rw (← suc-mul c (chunk_words p)) (mul-le-mul_right (chunk_words p) h)

  pub base-rises : (c d : ℕ) → c ≤ d → base p c ≤ base p d
  unfolding base
  base-rises c d h = mul-le-mul_right (chunk_words p) h

  pub base-low : (c : ℕ) → 1 ≤ c → 512 ≤ base p c
  base-low c h = let a = base-apart 0 c h in let b = words-least in omega arith

  pub past-directory : (c a : ℕ) → 1 ≤ c → base p c ≤ a → 512 ≤ a
  past-directory c a h l = let b = base-low c h in omega arith

  pub lines-base : (c : ℕ) → 8 * first_line p c ≡ base p c
  unfolding first_line chunk_lines base chunk_words
  lines-base c = each (λ q. 8 * (c * 2 ^ (q - 6)) ≡ c * 2 ^ (q - 3)) (omega arith) (omega arith) (omega arith) (omega arith) (omega arith) p lo hi

  pub units-base : (c : ℕ) → unit_word (first_unit p c) ≡ base p c
  unfolding first_unit chunk_units base chunk_words
  units-base c = each (λ q. unit_word (c * 2 ^ (q - 8)) ≡ c * 2 ^ (q - 3)) (omega arith) (omega arith) (omega arith) (omega arith) (omega arith) p lo hi

  -- A word is in one chunk only.
  pub one_chunk : (c d a : ℕ) → base p c ≤ a → a < base p c + chunk_words p → base p d ≤ a → a < base p d + chunk_words p → c ≡ d
  one_chunk c d a p1 p2 p3 p4 = go (ℕ_discrete c d) (dec_lt c d)
    where
      go : Dec (c ≡ d) → Dec (c < d) → c ≡ d
      go (yes e) x = e
      go (no e) (yes l) = absurd (let q = base-apart c d l in omega arith)
      go (no e) (no l) = absurd (let q = base-apart d c (omega (arith, e)) in omega arith)

  pub word-place : (w : ℕ) → (base p (word_chunk p w) ≤ w) × (w < base p (word_chunk p w) + chunk_words p)
  unfolding base word_chunk chunk_words
  word-place w =
      each (λ q. (w / 2 ^ (q - 3) * 2 ^ (q - 3) ≤ w) × (w < w / 2 ^ (q - 3) * 2 ^ (q - 3) + 2 ^ (q - 3)))
      (omega arith, omega arith) (omega arith, omega arith) (omega arith, omega arith) (omega arith, omega arith) (omega arith, omega arith) p lo hi

  -- the chunk of a word of chunk c
  pub chunk-of-word : (c w : ℕ) → base p c ≤ w → w < base p c + chunk_words p → word_chunk p w ≡ c
  chunk-of-word c w l u = let q = word-place w in one_chunk (word_chunk p w) c w q.0 q.1 l u

  -- committed lines lie in their chunk
  pub line-in : (c l a : ℕ) → l ≤ chunk_lines p → a < base p c + 8 * l → a < base p c + chunk_words p
  line-in c l a h q = let e = lines-words in omega arith

  -- the line of word j of line l of chunk c
  pub line-of : (c l j : ℕ) → j < 8 → line_of (base p c + 8 * l + j) ≡ first_line p c + l
  line-of c l j h = let e = lines-base c in omega arith

  -- Units and blocks.
  pub unit-in : (u : ℕ) → unit_in p u < chunk_units p
  unfolding unit_in chunk_units
  unit-in u = each (λ q. u % 2 ^ (q - 8) < 2 ^ (q - 8)) (omega arith) (omega arith) (omega arith) (omega arith) (omega arith) p lo hi

  pub unit-place : (u : ℕ) → unit_word u ≡ base p (unit_chunk p u) + unit_word (unit_in p u)
  unfolding base chunk_words unit_chunk unit_in chunk_units
  unit-place u = each (λ q. unit_word u ≡ u / 2 ^ (q - 8) * 2 ^ (q - 3) + unit_word (u % 2 ^ (q - 8))) (omega arith) (omega arith) (omega arith) (omega arith) (omega arith) p lo hi

  pub unit-split : (u : ℕ) → u ≡ first_unit p (unit_chunk p u) + unit_in p u
  unit-split u = let a = unit-place u in let b = units-base (unit_chunk p u) in omega arith

  -- the chunk, and the place there, of unit i of chunk c
  pub unit-at : (c i : ℕ) → i < chunk_units p → (unit_chunk p (first_unit p c + i) ≡ c) × (unit_in p (first_unit p c + i) ≡ i)
  unit-at c i h =
      let u = first_unit p c + i in
      let a = unit-place u in
      let b = units-base c in
      let d = unit-in u in
      let e = units-words in
      let q : unit_chunk p u ≡ c = one_chunk (unit_chunk p u) c (unit_word u) (omega arith) (omega arith) (omega arith) (omega arith) in
      let r : base p (unit_chunk p u) ≡ base p c = ap (base p) q in
      (q, omega arith)

  pub unit-chunk-word : (u : ℕ) → word_chunk p (unit_word u) ≡ unit_chunk p u
  unit-chunk-word u =
      let a = unit-place u in
      let b = unit-in u in
      let c = units-words in
      chunk-of-word (unit_chunk p u) (unit_word u) (omega arith) (omega arith)

  pub block_in : (u s a : ℕ) → unit_in p u + s ≤ chunk_units p → unit_word u ≤ a → a < unit_word u + 32 * s → (base p (unit_chunk p u) ≤ a) × (a < base p (unit_chunk p u) + chunk_words p)
  block_in u s a h l q = let e = unit-place u in let f = units-words in (omega arith, omega arith)

  -- Lengths: an image of n chunks has base p n words.
  pub chunks-bytes : (n : ℕ) → (chunks_in p (8 * base p n) ≡ n) × ((8 * base p n) % chunk_bytes p ≡ 0)
  unfolding chunks_in chunk_bytes base chunk_words
  chunks-bytes n =
      each (λ q. (8 * (n * 2 ^ (q - 3)) / 2 ^ q ≡ n) × (8 * (n * 2 ^ (q - 3)) % 2 ^ q ≡ 0))
      (omega arith, omega arith) (omega arith, omega arith) (omega arith, omega arith) (omega arith, omega arith) (omega arith, omega arith) p lo hi

  pub bytes-base : (bytes : ℕ) → bytes % chunk_bytes p ≡ 0 → bytes ≡ 8 * base p (chunks_in p bytes)
  unfolding chunks_in chunk_bytes base chunk_words
  bytes-base bytes =
      each (λ q. bytes % 2 ^ q ≡ 0 → bytes ≡ 8 * (bytes / 2 ^ q * 2 ^ (q - 3)))
      (λ h. omega arith) (λ h. omega arith) (λ h. omega arith) (λ h. omega arith) (λ h. omega arith) p lo hi

  pub length-allowed : (bytes : ℕ) → length_allowed p bytes ≡ true → (4 ≤ chunks_in p bytes) × (chunks_in p bytes ≤ max_chunks) × (bytes ≡ 8 * base p (chunks_in p bytes))
  unfolding length_allowed
  length-allowed bytes h =
      let n = chunks_in p bytes in
      let r = both_r (eqb (bytes % chunk_bytes p) 0) (both (leb 4 n) (leb n max_chunks)) h in
      let z = both_l (eqb (bytes % chunk_bytes p) 0) (both (leb 4 n) (leb n max_chunks)) h in
      (leb-true 4 n (both_l (leb 4 n) (leb n max_chunks) r), leb-true n max_chunks (both_r (leb 4 n) (leb n max_chunks) r), bytes-base bytes (eqb-true (bytes % chunk_bytes p) 0 z))

  pub allowed-length : (n bytes : ℕ) → 4 ≤ n → n ≤ max_chunks → bytes ≡ 8 * base p n → (length_allowed p bytes ≡ true) × (chunks_in p bytes ≡ n)
  unfolding length_allowed
  allowed-length n bytes least most e =
      let q = chunks-bytes n in
      rw e (rw (q.1, q.0, le-leb 4 n least, le-leb n max_chunks most) refl, q.0)

-- unit u begins at line 4 · u
pub unit-line : (u j : ℕ) → line_of (unit_word u + j) ≡ 4 * u + j / 8
unit-line u j = omega arith

-- The powers that there are, and the lengths allowed.
either_is : (a b : Bool) → either a b ≡ true → (a ≡ true) ⊎ (b ≡ true)
either_is true b h = inl refl
either_is false b h = inr h

pub power-is : (p : ℕ) → is_power p ≡ true → (p ≡ base_power) ⊎ (p ≡ large_power)
power-is p h = ⊎_elim (λ a. inl (eqb-true p base_power a)) (λ a. inr (eqb-true p large_power a)) (either_is (eqb p base_power) (eqb p large_power) h)

pub power-bounds : (p : ℕ) → is_power p ≡ true → (12 ≤ p) × (p ≤ 16)
power-bounds p h = ⊎_elim (λ e. (omega arith, omega arith)) (λ e. (omega arith, omega arith)) (power-is p h)

either_l : (a b : Bool) → a ≡ true → either a b ≡ true
either_l a b h = rw h

either_r : (a b : Bool) → b ≡ true → either a b ≡ true
either_r true b h = refl
either_r false b h = h

pub size-allowed : (p bytes : ℕ) → size_allowed p bytes ≡ true → (is_power p ≡ true) × (length_allowed p bytes ≡ true)
unfolding size_allowed
size-allowed p bytes h = (both_l (is_power p) (length_allowed p bytes) h, both_r (is_power p) (length_allowed p bytes) h)

-- a length allowed for a power is allowed for that size, and for one of them
pub allowed-size : (p bytes : ℕ) → is_power p ≡ true → length_allowed p bytes ≡ true → (size_allowed p bytes ≡ true) × (any_allowed bytes ≡ true)
unfolding size_allowed any_allowed
allowed-size p bytes h l =
    (rw (h, l) refl, ⊎_elim (λ e. either_l (length_allowed base_power bytes) (length_allowed large_power bytes) (rw e at l)) (λ e. either_r (length_allowed base_power bytes) (length_allowed large_power bytes) (rw e at l)) (power-is p h))
