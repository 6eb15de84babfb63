-- A chunk whose bits say that each of its blocks is in use is passed over: the bits of a chunk within the word that
-- holds them, and how many blocks of a chunk are looked at.
-- Assumes nothing.
use mathlib.Core.Path.{◌≡◌, refl, sym, ◌∙◌, ap, subst}
use mathlib.Core.Logic.{by_cases, ⊎_elim}
use mathlib.Core.Bool.{Bool, true, false}
use mathlib.Core.List.{List}
use Prim.Native.Nat.{ℕ, zero, suc, ◌+◌, ◌-◌, ◌*◌, ◌/◌, ◌%◌, ◌^◌, ◌≤◌, ◌<◌}
use native.Mathlib.Nat.{mul_assoc, mul-zero, pow-suc, div-add-mod', mul-add-div_right, mul-add-mod_self_right, div-div-eq-div-mul, zero-mul}
use native.Mathlib.Omega.{arith}
use native.Mathlib.Decide.{ℕ_discrete}
use borrow.Author.Tests.{eq-eqb, eqb-true}
use lib.Dec.{eqb}
use lib.ListN.{get_or}
use lib.Pow.{pow_pos, pow-add}
use Rattle.spec.specs.Basics.{pick, both, is_in}
use Rattle.spec.specs.Words.{words_of}
use Rattle.spec.specs.Places.{chunk_units, first_unit, directory_word}
use Rattle.spec.specs.Directory.{role_of, size_in, size_of}
use Rattle.spec.specs.declared.Size.{Size}
use Rattle.spec.specs.declared.Size.TheVariants as S
use Rattle.spec.specs.Contents.{pointers}
use Rattle.places.specs.Sizes.{power_of, power-low, power-high}
use Rattle.buffer.specs.Areas.{bits_start}
use Rattle.buffer.specs.Bits.{has_bit}
use Rattle.buffer.proofs.Laws.{bit_in_lem}
use Rattle.theory_base.proofs.Lists.{both_l, both_r}
use Rattle.theory_base.proofs.Places.{units-least}
use Rattle.placing.specs.Blocks.{Spare, bit_in, EachUsed, ChunkBits, ToLookAt}
use Rattle.placing.proofs.Staged.{spare-by}
use Rattle.placing.proofs.Search.{block_count, all_fit, counted, block-ends, Left, from_chunk, from_block, left_open, left-next, left-close}

-- THE BITS OF A CHUNK
-- a bit of the lowest 16
low_bit : (x i : ℕ) → i < 16 → x % 2 ^ 16 / 2 ^ i % 2 ≡ x / 2 ^ i % 2
low_bit x i l =
    let d : 16 ≡ suc (15 - i) + i = omega arith in
    let p : 2 ^ 16 ≡ 2 ^ (15 - i) * 2 * 2 ^ i = ap (λ (n : ℕ). 2 ^ n) d ∙ pow-add 2 (suc (15 - i)) i ∙ ap (λ (n : ℕ). n * 2 ^ i) (pow-suc 2 (15 - i)) in
    let h : x / 2 ^ 16 * 2 ^ 16 ≡ x / 2 ^ 16 * 2 ^ (15 - i) * 2 * 2 ^ i =
    ap (λ (n : ℕ). x / 2 ^ 16 * n) p ∙ sym (mul_assoc (x / 2 ^ 16) (2 ^ (15 - i) * 2) (2 ^ i)) ∙ ap (λ (n : ℕ). n * 2 ^ i) (sym (mul_assoc (x / 2 ^ 16) (2 ^ (15 - i)) 2)) in
    let t : x ≡ x / 2 ^ 16 * 2 ^ (15 - i) * 2 * 2 ^ i + x % 2 ^ 16 = sym (div-add-mod' x (2 ^ 16)) ∙ ap (λ (n : ℕ). n + x % 2 ^ 16) h in
    sym (ap (λ (n : ℕ). n / 2 ^ i % 2) t ∙ ap (λ (n : ℕ). n % 2) (mul-add-div_right (pow_pos i) (x / 2 ^ 16 * 2 ^ (15 - i) * 2) (x % 2 ^ 16)) ∙ mul-add-mod_self_right (x / 2 ^ 16 * 2 ^ (15 - i)) 2 (x % 2 ^ 16 / 2 ^ i))

-- a bit of 16 within a word
within : (w m i : ℕ) → i < 16 → w / 2 ^ m % 2 ^ 16 / 2 ^ i % 2 ≡ w / 2 ^ (m + i) % 2
within w m i l = low_bit (w / 2 ^ m) i l ∙ ap (λ (n : ℕ). n % 2) (div-div-eq-div-mul w (2 ^ m) (2 ^ i) ∙ ap (λ (n : ℕ). w / n) (sym (pow-add 2 m i)))

-- the bits of a small chunk are these, if they are those of its quarter of a word
pub small-bits : (b : List ℕ) (c : ℕ) (bits : List ℕ) → c < 504 → get_or b (bits_start + c / 4) 0 / 2 ^ (16 * (c % 4)) % 2 ^ 16 ≡ get_or bits 0 0 → ChunkBits S.Small b c bits
unfolding first_unit chunk_units
small-bits b c bits l e = record {
  each = λ i h.
      let w = get_or b (bits_start + c / 4) 0 in
      let word : (first_unit 12 c + i) / 64 ≡ c / 4 = omega arith in
      let place : (first_unit 12 c + i) % 64 ≡ 16 * (c % 4) + i = omega arith in
      let first : i / 64 ≡ 0 = omega arith in
      let bit : i % 64 ≡ i = omega arith in
      bit_in_lem S.Small b (first_unit 12 c + i) (omega arith)
      ∙ ap (λ (n : ℕ). eqb (get_or b (bits_start + n) 0 / 2 ^ ((first_unit 12 c + i) % 64) % 2) 1) word
      ∙ ap (λ (n : ℕ). eqb (w / 2 ^ n % 2) 1) place
      ∙ ap (λ (n : ℕ). eqb n 1) (sym (within w (16 * (c % 4)) i h))
      ∙ ap (λ (n : ℕ). eqb (n / 2 ^ i % 2) 1) e
      ∙ ap (λ (n : ℕ). eqb (get_or bits 0 0 / 2 ^ n % 2) 1) (sym bit)
      ∙ ap (λ (n : ℕ). eqb (get_or bits n 0 / 2 ^ (i % 64) % 2) 1) (sym first);
}

-- of a large chunk, if they are its four words
four : (f g : ℕ → ℕ) → f 0 ≡ g 0 → f 1 ≡ g 1 → f 2 ≡ g 2 → f 3 ≡ g 3 → (k : ℕ) → k < 4 → f k ≡ g k
four f g a b c d zero l = a
four f g a b c d (suc zero) l = b
four f g a b c d (suc (suc zero)) l = c
four f g a b c d (suc (suc (suc zero))) l = d
four f g a b c d (suc (suc (suc (suc k)))) l = absurd (omega arith)

pub large-bits : (b : List ℕ) (c : ℕ) (bits : List ℕ) → c < 504 → get_or b (bits_start + 4 * c) 0 ≡ get_or bits 0 0 → get_or b (bits_start + 4 * c + 1) 0 ≡ get_or bits 1 0 → get_or b (bits_start + 4 * c + 2) 0 ≡ get_or bits 2 0
    → get_or b (bits_start + 4 * c + 3) 0 ≡ get_or bits 3 0 → ChunkBits S.Large b c bits
unfolding first_unit chunk_units
large-bits b c bits l e0 e1 e2 e3 = record {
  each = λ i h.
      let word : bits_start + (first_unit 16 c + i) / 64 ≡ bits_start + 4 * c + i / 64 = omega arith in
      let place : (first_unit 16 c + i) % 64 ≡ i % 64 = omega arith in
      bit_in_lem S.Large b (first_unit 16 c + i) (omega arith)
      ∙ ap (λ (n : ℕ). eqb (get_or b n 0 / 2 ^ ((first_unit 16 c + i) % 64) % 2) 1) word
      ∙ ap (λ (n : ℕ). eqb (get_or b (bits_start + 4 * c + i / 64) 0 / 2 ^ n % 2) 1) place
      ∙ ap (λ (n : ℕ). eqb (n / 2 ^ (i % 64) % 2) 1) (four (λ k. get_or b (bits_start + 4 * c + k) 0) (λ k. get_or bits k 0) (rw first e0) e1 e2 e3 (i / 64) (omega arith));
}
  where
    first : bits_start + 4 * c + 0 ≡ bits_start + 4 * c
    first = omega arith

-- EACH BLOCK IN USE, computed for a block size
abbrev ones : (ℕ → ℕ) → ℕ → Bool
ones f zero = true
ones f (suc n) = both (eqb (f n) 1) (ones f n)

each-one : (f : ℕ → ℕ) (n : ℕ) → ones f n ≡ true → (j : ℕ) → j < n → f j ≡ 1
each-one f zero h j l = absurd (omega arith)
each-one f (suc n) h j l =
    by_cases (ℕ_discrete j n)
    (λ e. ap f e ∙ eqb-true (f n) 1 (both_l (eqb (f n) 1) (ones f n) h))
    (λ e. each-one f n (both_r (eqb (f n) 1) (ones f n) h) j (omega (arith, e)))

pub used-by : (size : Size) (units s : ℕ) (full : List ℕ) → units ≡ s → ones (λ j. bit_in full (s * j)) (chunk_units (power_of size) / s) ≡ true → EachUsed size units full
used-by size units s full e h = record { used = λ j l. rw e (each-one (λ i. bit_in full (s * i)) (chunk_units (power_of size) / s) h j (rw e at l)) }

-- block j starts in its chunk
in-chunk : (most s j : ℕ) → 1 ≤ most → j < most / s → s * j < most
in-chunk most s j one h =
    by_cases (ℕ_discrete s 0)
    (λ e. let z : s * j ≡ 0 * j = ap (λ (x : ℕ). x * j) e in let y = zero-mul j in omega arith)
    (λ e. let z = block-ends most s j (most / s) h (all_fit most s) in omega (arith, e))

units-some : (size : Size) → 1 ≤ chunk_units (power_of size)
units-some size = let a = units-least (power_of size) (power-low size) (power-high size) in omega arith

-- where every bit of a chunk is, each block is in use, whatever its size
pub all-used : (size : Size) (s : ℕ) (full : List ℕ) → ones (bit_in full) (chunk_units (power_of size)) ≡ true → EachUsed size s full
all-used size s full h = record { used = λ j l. each-one (bit_in full) (chunk_units (power_of size)) h (s * j) (in-chunk (chunk_units (power_of size)) s j (units-some size) l) }

-- PASSED OVER
module _ (size : Size) (image : List ℕ) (n s : ℕ) (b : List ℕ) (words : ℕ) where
  used-not-spare : (u : ℕ) → has_bit size b u ≡ true → Spare size b words u false
  used-not-spare u h es items g = sym (spare-by u es items true (is_in u (pointers items)) (sym h ∙ g.blocks u) refl)

  pass-blocks : (c k : ℕ) → ((j : ℕ) → j < k → has_bit size b (first_unit (power_of size) c + s * j) ≡ true) → Left size image n s b words (from_block size image n s b words c k 0) → (j : ℕ) → j ≤ k → Left size image n s b words (from_block size image n s b words c k j)
  pass-blocks c k used p zero l = p
  pass-blocks c k used p (suc j) l =
      let z : j + 1 ≡ suc j = omega arith in
      subst (λ (x : ℕ). Left size image n s b words (from_block size image n s b words c k x)) z
      (left-next size image n s b words c k j (first_unit (power_of size) c + s * j) (omega arith) refl (used-not-spare (first_unit (power_of size) c + s * j) (used j (omega arith))) (pass-blocks c k used p j (omega arith)))

  at-most-all : (t : Bool) → pick t (chunk_units (power_of size) / s) 0 ≤ chunk_units (power_of size) / s
  at-most-all true = omega arith
  at-most-all false = omega arith

  pass-chunk : (c : ℕ) → c < n → ((j : ℕ) → j < chunk_units (power_of size) / s → has_bit size b (first_unit (power_of size) c + s * j) ≡ true) → Left size image n s b words (from_chunk size image n s b words c) → Left size image n s b words (from_block size image n s b words c 0 0)
  pass-chunk c l used p =
      let k = block_count size (words_of image) s c in
      let few : k ≤ chunk_units (power_of size) / s = at-most-all (eqb (size_of (power_of size) (words_of image) c) s) in
      let z : c + 1 ≡ suc c = omega arith in
      subst (λ (x : ℕ). Left size image n s b words (from_chunk size image n s b words x)) z
      (left-close size image n s b words c k k (omega arith) (pass-blocks c k (λ j h. used j (omega arith)) (left_open size image n s b words c k l refl p) k (omega arith)))

  -- so many blocks of chunk c are looked at
  pub record Looks (c k : ℕ) : Type 0 where
    pub fits : s * k ≤ chunk_units (power_of size)
    pub few : k ≤ chunk_units (power_of size)
    pub some' : 1 ≤ k → (size_of (power_of size) (words_of image) c ≡ s) × (1 ≤ s)
    pub begin : Left size image n s b words (from_chunk size image n s b words c) → Left size image n s b words (from_block size image n s b words c k 0)

  pub looked : (c word most : ℕ) (full : List ℕ) (k : ℕ) → c < n → word ≡ 2 + 256 * (s % 2 ^ 56) → most ≡ pick (eqb (size_in (role_of (power_of size) word)) s) (chunk_units (power_of size) / s) 0 → EachUsed size s full
      → ToLookAt size (words_of image) b c word most full k → Looks c k
  looked c word most full k l ew em used = ⊎_elim some none
    where
      some : k ≡ pick (eqb (get_or (words_of image) (directory_word c) 0) word) most 0 → Looks c k
      some e = let q = counted size (words_of image) s c word most k ew em e in record { fits = q.fits; few = q.few; some' = q.some'; begin = left_open size image n s b words c k l q.is }

      each-used : ChunkBits size b c full → (j : ℕ) → j < chunk_units (power_of size) / s → has_bit size b (first_unit (power_of size) c + s * j) ≡ true
      each-used bits j h = bits.each (s * j) (in-chunk (chunk_units (power_of size)) s j (units-some size) h) ∙ eq-eqb (bit_in full (s * j)) 1 (used.used j h)

      none : (k ≡ 0) × ChunkBits size b c full → Looks c k
      none (e, bits) = record {
        fits = rw e (let q = mul-zero s in omega arith);
        few = rw e (omega arith);
        some' = λ h. absurd (omega arith);
        begin = λ p. rw e (pass-chunk c l (each-used bits) p);
      }
