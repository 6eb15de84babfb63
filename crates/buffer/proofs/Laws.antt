-- The laws of the set of units: what a store to a word of it does, and what clearing its words does.
-- Assumes nothing.
use mathlib.Core.Path.{◌≡◌, refl, ◌∙◌, ap, sym}
use mathlib.Core.Logic.{by_cases}
use mathlib.Core.Bool.{Bool, true, false}
use mathlib.Core.List.{List}
use Prim.Native.Nat.{ℕ, ◌-◌, ◌*◌, ◌/◌, ◌%◌, ◌^◌, ◌≤◌, ◌<◌}
use native.Mathlib.Nat.{zero-div, div-add-mod'}
use native.Mathlib.Omega.{arith}
use native.Mathlib.Decide.{dec_lt, ℕ_discrete}
use borrow.Author.Tests.{lt-ltb, le-ltb, eq-eqb}
use lib.Bits.{bit_and, bit_or, bit_xor}
use lib.Dec.{eqb}
use lib.ListN.{length, get_or, set, take, replicate, length-set}
use borrow.Rule.Slice.PartMut.{put_mid, mid_of, mid_len}
use Rattle.std.proofs.Common.{rules}
use Rattle.std.proofs.lemmas.List.{places}
use lib.Seq.{get_or-set_same, get_or-set_other, ext_get_or, get_or-take, length-take-le}
use Rattle.buffer.proofs.Word.{shifted, set_same, set_other, unset-same, unset-other}
use Rattle.spec.specs.declared.Size.{Size}
use Rattle.spec.specs.declared.Size.TheVariants as S
use Rattle.buffer.specs.Areas.{bits_start, bits_end_of, bits_end, buffer_words}
use Rattle.places.specs.Sizes.{unit_count, unit-most}
use Rattle.buffer.specs.Bits.{word_of, has_bit, WordsKept, FrontKept, BitWritten, BitsCleared}

-- the bit of a unit, and none past the last
pub bit_in_lem : (size : Size) (b : List ℕ) (u : ℕ) → u < unit_count size → has_bit size b u ≡ eqb (get_or b (word_of u) 0 / 2 ^ (u % 64) % 2) 1
unfolding has_bit
bit_in_lem size b u l = rw (lt-ltb u (unit_count size) l)

pub bit-beyond : (size : Size) (b : List ℕ) (u : ℕ) → unit_count size ≤ u → has_bit size b u ≡ false
unfolding has_bit
bit-beyond size b u l = rw (le-ltb u (unit_count size) l)

-- two buffers whose words at a unit agree in its bit
pub bit-agrees : (size : Size) (b d : List ℕ) (u : ℕ)
    → (u < unit_count size → get_or b (word_of u) 0 / 2 ^ (u % 64) % 2 ≡ get_or d (word_of u) 0 / 2 ^ (u % 64) % 2) → has_bit size b u ≡ has_bit size d u
bit-agrees size b d u h =
    by_cases (dec_lt u (unit_count size))
    (λ l. bit_in_lem size b u l ∙ ap (λ x. eqb x 1) (h l) ∙ sym (bit_in_lem size d u l))
    (λ l. let g : unit_count size ≤ u = omega arith in bit-beyond size b u g ∙ sym (bit-beyond size d u g))

-- two buffers that agree in the area of the bits
pub bits-agree : (size : Size) (b d : List ℕ) → ((i : ℕ) → bits_start ≤ i → i < bits_end → get_or d i 0 ≡ get_or b i 0) → (u : ℕ) → has_bit size d u ≡ has_bit size b u
bits-agree size b d h u = bit-agrees size d b u (λ l. let m = unit-most size in rw (h (word_of u) (omega arith) (omega arith)))

-- a buffer that is as it was
pub kept-all : (b : List ℕ) → length b ≡ buffer_words → WordsKept b b
kept-all b n = record { size = n; long = refl; below = λ i l. refl; above = λ i l. refl }

-- a store of a word that differs in the unit's bit alone
module _ (size : Size) (b : List ℕ) (u w : ℕ) (value : Bool) (n : length b ≡ buffer_words) (l : u < unit_count size) where
  in-range : word_of u < length b
  in-range = let m = unit-most size in omega arith

  pub written : eqb (w / 2 ^ (u % 64) % 2) 1 ≡ value
      → ((k : ℕ) → (k ≡ u % 64 → ⊥) → w / 2 ^ k % 2 ≡ get_or b (word_of u) 0 / 2 ^ k % 2) → BitWritten size b (set b (word_of u) w) u value
  written same others =
      record {
        at = λ h. bit_in_lem size (set b (word_of u) w) u h ∙ rw (get_or-set_same b (word_of u) w 0 in-range) same;
        other = λ v d. bit-agrees size (set b (word_of u) w) b v (λ h. by_cases (ℕ_discrete (v / 64) (u / 64))
            (λ q.
            let e : v % 64 ≡ u % 64 → ⊥ = λ r. d (omega (arith, div-add-mod' v 64, div-add-mod' u 64)) in
            rw (q, get_or-set_same b (word_of u) w 0 in-range) (others (v % 64) e))
            (λ q. rw (get_or-set_other b (word_of u) (word_of v) w 0 (λ r. q (omega arith)))));
        beyond = λ h. absurd (omega arith);
        kept = record {
          size = n;
          long = length-set b (word_of u) w;
          below = λ i h. get_or-set_other b (word_of u) i w 0 (λ r. omega arith);
          above = λ i h. get_or-set_other b (word_of u) i w 0 (λ r. let m = unit-most size in omega arith);
        };
      }

-- what the code stores
module _ (size : Size) (b : List ℕ) (u : ℕ) (n : length b ≡ buffer_words) (l : u < unit_count size) where
  pub set-shows : BitWritten size b (set b (word_of u) (bit_or (get_or b (word_of u) 0) (1 * 2 ^ (u % 64) % 2 ^ 64))) u true
  set-shows =
      let w = get_or b (word_of u) 0 in
      let k = u % 64 in
      rw (shifted k (omega arith)) (written size b u (bit_or w (2 ^ k)) true n l (eq-eqb _ 1 (set_same w k)) (set_other w k))

  pub unset-shows : BitWritten size b (set b (word_of u) (bit_xor (get_or b (word_of u) 0) (bit_and (get_or b (word_of u) 0) (1 * 2 ^ (u % 64) % 2 ^ 64)))) u false
  unset-shows =
      let w = get_or b (word_of u) 0 in
      let k = u % 64 in
      rw (shifted k (omega arith)) (written size b u (bit_xor w (bit_and w (2 ^ k))) false n l (ap (λ x. eqb x 1) (unset-same w k)) (unset-other w k))

-- a part of the words filled with 0: the words from a to e are 0, and every other is as it was
pub record Zeroed (before after : List ℕ) (a e : ℕ) : Type 0 where
  pub done : (j : ℕ) → a ≤ j → j < e → get_or after j 0 ≡ 0
  pub left : (j : ℕ) → e ≤ j → get_or after j 0 ≡ get_or before j 0
  pub low : (j : ℕ) → j < a → get_or after j 0 ≡ get_or before j 0
  pub long : length after ≡ length before

pub zeroed : (b z : List ℕ) (a e : ℕ) → a ≤ e → e ≤ length b → z ≡ replicate (length (mid_of a (e - a) b)) 0 → Zeroed b (put_mid a (e - a) b z) a e
zeroed b z a e l u q = rw (q, mid_len a e b u) (record {
  done = λ j g h. search (rules, places);
  left = λ j g. search (rules, places);
  low = λ j g. search (rules, places);
  long = search (rules, places);
})

zero_bit : (k : ℕ) → 0 / 2 ^ k % 2 ≡ 0
zero_bit k = rw (zero-div (2 ^ k))

unit-inside : (size : Size) (v : ℕ) → v < unit_count size → word_of v < bits_end_of size
unit-inside S.Small v l = omega arith
unit-inside S.Large v l = omega arith

pub clear-all : (size : Size) (b d : List ℕ) (e : ℕ) → length b ≡ buffer_words → e ≡ bits_end_of size → Zeroed b d bits_start e → BitsCleared size b d
clear-all size b d e n q c =
    record {
      none = λ v. by_cases (dec_lt v (unit_count size))
          (λ l. bit_in_lem size d v l ∙ rw (c.done (word_of v) (omega arith) (rw q (unit-inside size v l)), zero_bit (v % 64)))
          (λ l. bit-beyond size d v (omega arith));
      kept = record { size = n; long = c.long; below = c.low; above = λ i l. c.left i (let m = unit-most size in omega arith) };
    }

-- one change after another
pub kept_then : (a b d : List ℕ) → WordsKept a b → WordsKept b d → WordsKept a d
kept_then a b d k m =
    record {
      size = k.size;
      long = m.long ∙ k.long;
      below = λ i l. m.below i l ∙ k.below i l;
      above = λ i l. m.above i l ∙ k.above i l;
    }

-- what stands before the bits
pub front_kept : (b d : List ℕ) → WordsKept b d → FrontKept b d
front_kept b d k = record { size = k.size; long = k.long; below = k.below; between = λ i l h. k.above i l }

pub front-all : (b : List ℕ) → length b ≡ buffer_words → FrontKept b b
front-all b n = front_kept b b (kept-all b n)

pub front-then : (a b d : List ℕ) → FrontKept a b → FrontKept b d → FrontKept a d
front-then a b d k m = record { size = k.size; long = m.long ∙ k.long; below = λ i l. m.below i l ∙ k.below i l; between = λ i l h. m.between i l h ∙ k.between i l h }

-- what stands before the bits is the same list
pub kept-take : (b d : List ℕ) (n : ℕ) → WordsKept b d → n ≤ bits_start → take n d ≡ take n b
kept-take b d n k l =
    let e : length (take n d) ≡ n = length-take-le n d (omega (arith, k.size, k.long)) in
    let f : length (take n b) ≡ n = length-take-le n b (omega (arith, k.size)) in
    ext_get_or 0 (take n d) (take n b) (e ∙ sym f) (λ i h.
    let m : i < n = omega arith in
    rw (get_or-take n d i 0 m, get_or-take n b i 0 m) (k.below i (omega arith)))
