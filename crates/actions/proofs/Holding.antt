-- A value in the second area of the buffer: the code's stores lay its length and its words over it.
-- Assumes nothing.
use mathlib.Core.Path.{◌≡◌, refl, ◌∙◌, ap}
use mathlib.Core.List.{List, [], ◌∷◌}
use Prim.Native.Nat.{ℕ, suc, ◌+◌, ◌/◌, ◌≤◌, ◌<◌}
use native.Mathlib.Omega.{arith}
use lib.ListN.{length, get_or, set}
use Rattle.spec.specs.Words.{packed}
use Rattle.spec.specs.Blocks.{block_limit}
use Rattle.spec.specs.declared.Size.{Size}
use Rattle.places.specs.Sizes.{power_of}
use Rattle.words.specs.Overlay.{overlay, length-overlay, get_or-overlay-outside, get_or-overlay-inside}
use Rattle.words.proofs.Values.{length-packed}
use Rattle.buffer.specs.Areas.{second_start, bits_start, buffer_words}
use Rattle.buffer.proofs.Laws.{bits-agree}
use Rattle.session.specs.State.{buffer_part, most_bytes, held_count, held_words}
use Rattle.actions.specs.Staging.{Kept}
use Rattle.actions.proofs.Bounds.{value-few}

part-laid : (b xs : List ℕ) (i : ℕ) → ((k j : ℕ) → j ≡ i + k → k < length xs → get_or b j 0 ≡ get_or xs k 0) → buffer_part b i (length xs) ≡ xs
part-laid b [] i h = refl
part-laid b (x ∷ xs) i h =
    let q = h 0 i (omega arith) (omega arith) in
    let r = part-laid b xs (suc i) (λ k j e l. h (suc k) j (omega arith) (omega arith)) in
    cc

module _ (size : Size) (b d v : List ℕ) (n : length b ≡ buffer_words) (h : length v ≤ block_limit (power_of size)) (stored : d ≡ overlay (set b second_start (length v)) (second_start + 1) (packed v)) where
  words : length (packed v) ≡ (length v + 7) / 8
  words = length-packed v

  short : length v ≤ 65528
  short = let m = value-few size in omega arith

  laid : d ≡ overlay b second_start (length v ∷ packed v)
  laid = stored

  outside : (i : ℕ) → (second_start ≤ i → i < bits_start → ⊥) → get_or d i 0 ≡ get_or b i 0
  outside i o = let w = words in let m = short in ap (λ (xs : List ℕ). get_or xs i 0) laid ∙ get_or-overlay-outside (length v ∷ packed v) b second_start i (λ p q. o p (omega arith))

  inside : (k j : ℕ) → j ≡ second_start + k → k < length (length v ∷ packed v) → get_or d j 0 ≡ get_or (length v ∷ packed v) k 0
  inside k j e l = let w = words in let m = short in ap (λ (xs : List ℕ). get_or xs j 0) laid ∙ get_or-overlay-inside (length v ∷ packed v) b second_start k j e l (omega arith)

  there : buffer_part d second_start (1 + (length v + 7) / 8) ≡ length v ∷ packed v
  there = let w = words in let m : 1 + (length v + 7) / 8 ≡ suc (length (packed v)) = omega arith in rw m (part-laid d (length v ∷ packed v) second_start inside)

  pub held_more : Kept size b d v
  unfolding held_words
  held_more = record {
    whole = n;
    long = ap length laid ∙ length-overlay b second_start (length v ∷ packed v);
    below = λ i l. outside i (λ p q. omega arith);
    above = λ i l. outside i (λ p q. omega arith);
    bits = bits-agree size b d (λ i l h. outside i (λ p q. omega arith));
    large = λ l. absurd (omega arith);
    written = λ l. there;
    held = λ k z l.
        let w : get_or d second_start 0 ≡ length v = inside 0 second_start refl (omega arith) in
        let q : most_bytes k ≡ block_limit (power_of size) = ap (λ (x : Size). block_limit (power_of x)) z in
        let m : held_count k d ≡ 1 + (length v + 7) / 8 = omega arith in
        ap (buffer_part d second_start) m ∙ there;
  }
