-- The laws of a change of sums: nothing, a store to one sum, one change after another; and what it makes of the sums of
-- entries.
-- Assumes nothing.
use Rattle.std.proofs.Common.{◌≡◌, ℕ, ◌+◌, ◌/◌, ◌%◌, ◌^◌, ◌<◌, eqb, List, [], length, get_or, set, sym, refl, ap, ◌∙◌, subst, arith, length-set, get_or-set_other, get_or-set_same, eq-eqb, ne_eqb}
use mathlib.Core.Logic.{by_cases}
use mathlib.Core.Option.{some}
use native.Mathlib.Nat.{mod-add-mod}
use native.Mathlib.Decide.{ℕ_discrete}
use Rattle.spec.specs.declared.Size.{Size}
use Rattle.spec.specs.declared.Size.TheVariants as S
use Rattle.places.specs.Sizes.{power_of}
use Rattle.packing.specs.Packed.{widths_of}
use Rattle.spec.specs.Basics.{pick}
use Rattle.spec.specs.Places.{chunk_words, word_chunk}
use Rattle.spec.specs.Log.{Entry}
use Rattle.buffer.specs.Bits.{has_bit, FrontKept}
use Rattle.buffer.proofs.Laws.{bits-agree, Zeroed}
use Rattle.buffer.specs.Areas.{sums_start, sums_count, buffer_words}
use Rattle.volatile.specs.Sums.{weight, share_in, chosen_sum, Summed}
use Rattle.volatile.proofs.Sums.{sum-none}
use Rattle.volatile.specs.Change.{only, nothing, SumsAlone, Changed, Cleared}

pub alone-self : (b : List ℕ) → length b ≡ buffer_words → SumsAlone b b
alone-self b n = record { size = n; long = refl; below = λ i l. refl }

pub alone-then : (a b d : List ℕ) → SumsAlone a b → SumsAlone b d → SumsAlone a d
alone-then a b d k m = record { size = k.size; long = m.long ∙ k.long; below = λ i l. m.below i l ∙ k.below i l }

pub changed-none : (b : List ℕ) → length b ≡ buffer_words → Changed b b nothing nothing
changed-none b n = record { kept = alone-self b n; sums = λ c l. refl; narrow = λ c l h. h }

-- neither the words before the bits nor these change
pub alone-front : (b d : List ℕ) → SumsAlone b d → FrontKept b d
alone-front b d k = record { size = k.size; long = k.long; below = λ i l. k.below i (omega arith); between = λ i l h. k.below i (omega arith) }

pub alone-bits : (size : Size) → (b d : List ℕ) → SumsAlone b d → (u : ℕ) → has_bit size d u ≡ has_bit size b u
alone-bits size b d k = bits-agree size b d (λ i l h. k.below i (omega arith))

-- a store to the sum of a place's chunk
module _ (size : Size) (b : List ℕ) (place w v : ℕ) (n : length b ≡ buffer_words) where
  abbrev slot : ℕ
  slot = sums_start + word_chunk (power_of size) place % sums_count

  in-range : slot < length b
  in-range = omega arith

  stored : SumsAlone b (set b slot v)
  stored = record { size = n; long = length-set b slot v; below = λ i l. get_or-set_other b slot i v 0 (λ e. omega arith) }

  at_own : (c : ℕ) → word_chunk (power_of size) place % sums_count ≡ c → get_or (set b slot v) (sums_start + c) 0 ≡ v
  at_own c e = rw (← e) (get_or-set_same b slot v 0 in-range)

  at_other : (c : ℕ) → (word_chunk (power_of size) place % sums_count ≡ c → ⊥) → get_or (set b slot v) (sums_start + c) 0 ≡ get_or b (sums_start + c) 0
  at_other c d = get_or-set_other b slot (sums_start + c) v 0 (λ e. d (omega arith))

  own-only : (c : ℕ) → word_chunk (power_of size) place % sums_count ≡ c → only size place w c ≡ w
  own-only c e = rw (eq-eqb (word_chunk (power_of size) place % sums_count) c e)

  other-only : (c : ℕ) → (word_chunk (power_of size) place % sums_count ≡ c → ⊥) → only size place w c ≡ 0
  other-only c d = rw (ne_eqb (word_chunk (power_of size) place % sums_count) c d)

  narrowed : v < 2 ^ 64 → (c : ℕ) → c < sums_count → get_or b (sums_start + c) 0 < 2 ^ 64 → get_or (set b slot v) (sums_start + c) 0 < 2 ^ 64
  narrowed h c l g = by_cases (ℕ_discrete (word_chunk (power_of size) place % sums_count) c) (λ e. rw (at_own c e) h) (λ d. rw (at_other c d) g)

  pub added : v ≡ (get_or b slot 0 + w) % 2 ^ 64 → Changed b (set b slot v) (only size place w) nothing
  added e = record { kept = stored; sums = sums; narrow = narrowed (omega arith) }
    where
      sums : (c : ℕ) → c < sums_count → (get_or (set b slot v) (sums_start + c) 0 + 0) % 2 ^ 64 ≡ (get_or b (sums_start + c) 0 + only size place w c) % 2 ^ 64
      sums c l = by_cases (ℕ_discrete (word_chunk (power_of size) place % sums_count) c) (λ q. rw (at_own c q, own-only c q, ← q) (omega arith)) (λ d. rw (at_other c d, other-only c d))

  pub taken : (v + w) % 2 ^ 64 ≡ get_or b slot 0 → v < 2 ^ 64 → Changed b (set b slot v) nothing (only size place w)
  taken e h = record { kept = stored; sums = sums; narrow = narrowed h }
    where
      sums : (c : ℕ) → c < sums_count → (get_or (set b slot v) (sums_start + c) 0 + only size place w c) % 2 ^ 64 ≡ (get_or b (sums_start + c) 0 + 0) % 2 ^ 64
      sums c l = by_cases (ℕ_discrete (word_chunk (power_of size) place % sums_count) c) (λ q. rw (at_own c q, own-only c q, ← q) (omega arith)) (λ d. rw (at_other c d, other-only c d))

-- of a place its chunk alone counts
pub changed-place : (size : Size) → (b d : List ℕ) (p q w : ℕ) → word_chunk (power_of size) p % sums_count ≡ word_chunk (power_of size) q % sums_count → Changed b d (only size p w) nothing → Changed b d (only size q w) nothing
changed-place size b d p q w e k = subst (λ (x : ℕ). Changed b d (λ c. pick (eqb x c) w 0) nothing) e k

-- one change after another
mod-then : (m a b d more less more' less' : ℕ) → (b + less) % m ≡ (a + more) % m → (d + less') % m ≡ (b + more') % m → (d + (less + less')) % m ≡ (a + (more + more')) % m
mod-then m a b d more less more' less' h g =
    let turn : d + (less + less') ≡ (d + less') + less = omega arith in
    let mid : (b + more') + less ≡ (b + less) + more' = omega arith in
    let last : (a + more) + more' ≡ a + (more + more') = omega arith in
    ap (λ (x : ℕ). x % m) turn ∙ sym (mod-add-mod (d + less') m less) ∙ ap (λ (x : ℕ). (x + less) % m) g ∙ mod-add-mod (b + more') m less
    ∙ ap (λ (x : ℕ). x % m) mid ∙ sym (mod-add-mod (b + less) m more') ∙ ap (λ (x : ℕ). (x + more') % m) h ∙ mod-add-mod (a + more) m more' ∙ ap (λ (x : ℕ). x % m) last

pub changed_then : (a b d : List ℕ) (more less more' less' : ℕ → ℕ) → Changed a b more less → Changed b d more' less' → Changed a d (λ c. more c + more' c) (λ c. less c + less' c)
changed_then a b d more less more' less' k m = record {
  kept = alone-then a b d k.kept m.kept;
  sums = λ c l. mod-then (2 ^ 64) (get_or a (sums_start + c) 0) (get_or b (sums_start + c) 0) (get_or d (sums_start + c) 0) (more c) (less c) (more' c) (less' c) (k.sums c l) (m.sums c l);
  narrow = λ c l h. m.narrow c l (k.narrow c l h);
}

-- THE SUMS OF ENTRIES, before and after
pub changed-summed : (size : Size) → (b d : List ℕ) (more less : ℕ → ℕ) (es es' : List Entry) → Changed b d more less
    → ((c : ℕ) → c < sums_count → chosen_sum size c es' + less c ≡ chosen_sum size c es + more c) → Summed size b es → Summed size d es'
changed-summed size b d more less es es' k h s = record {
  each = λ c l.
      let x = k.sums c l in
      let y = h c l in
      let z = s.each c l in
      let w = k.narrow c l (omega arith) in
      omega arith;
}

pub cleared-summed : (size : Size) → (b d : List ℕ) → Cleared b d → Summed size d []
cleared-summed size b d k = record { each = λ c l. let z = sum-none size c in let y = k.zero c l in rw (y, z) }

-- a place that the table's word has room for lies in a chunk that has a sum
chunk-few : (size : Size) (w : ℕ) → w < (widths_of size).place → w / chunk_words (power_of size) % sums_count ≡ w / chunk_words (power_of size)
unfolding chunk_words
chunk-few S.Small w l = omega arith
chunk-few S.Large w l = omega arith

-- what an entry adds to each chunk
pub share-only : (size : Size) → (c : ℕ) (e : Entry) → e.at < (widths_of size).place → share_in size c (some e) ≡ only size e.at (weight e) c
unfolding word_chunk
share-only size c e l = rw (chunk-few size e.at l)

-- all sums filled with 0
pub clear-all : (b d : List ℕ) → length b ≡ buffer_words → Zeroed b d sums_start buffer_words → Cleared b d
clear-all b d n c = record { kept = record { size = n; long = c.long; below = c.low }; zero = λ i l. c.done (sums_start + i) (omega arith) (omega arith) }
