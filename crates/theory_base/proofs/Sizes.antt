-- The laws of block sizes: the size for a value fits it, is a size, and is the smallest; where the blocks of a chunk
-- stand.
-- Assumes nothing.
use Rattle.std.proofs.lemmas.Bool.Decides.{nat_tests}
use mathlib.Core.Path.{◌≡◌, ap}
use mathlib.Core.Bool.{true}
use Prim.Native.Nat.{ℕ, suc, ◌+◌, ◌*◌, ◌/◌, ◌%◌, ◌≤◌, ◌<◌}
use native.Mathlib.Nat.{mul_comm, le_trans, le_antisymm, mul-le-mul_left, mul-le-mul_right, suc-mul, mul-mod_left, div-mul-le_self, le-div_iff_mul-le}
use native.Mathlib.Omega.{arith}
use borrow.Author.Tests.{le-leb, eq-eqb}
use Rattle.spec.specs.Places.{chunk_units, first_unit, unit_chunk, unit_in}
use Rattle.spec.specs.Directory.{size_for, is_size}
use Rattle.spec.specs.Blocks.{block_limit, units_for, block_size}
use Rattle.theory_base.proofs.Places.{unit-at}

-- Quotients of one number.
div-falls : (n a b : ℕ) → 1 ≤ a → a ≤ b → n / b ≤ n / a
div-falls n a b h l = (le-div_iff_mul-le h).1 (le_trans (mul-le-mul_left (n / b) l) (div-mul-le_self n b))

div-some : (n a : ℕ) → 1 ≤ a → a ≤ n → 1 ≤ n / a
div-some n a h l = (le-div_iff_mul-le h).1 (omega arith)

div-twice : (n a : ℕ) → 1 ≤ a → a ≤ n → a ≤ n / (n / a)
div-twice n a h l = (le-div_iff_mul-le (div-some n a h l)).1 (rw (mul_comm a (n / a)) (div-mul-le_self n a))

div-least : (n k : ℕ) → 1 ≤ k → n / k ≤ n
div-least n k h = let a = div-mul-le_self n k in let b : n / k * 1 ≤ n / k * k = mul-le-mul_left (n / k) h in omega arith

module _ (p : ℕ) where
  -- a size for u units has at least u and at most the chunk's units
  pub size_fits : (u : ℕ) → 1 ≤ u → u ≤ chunk_units p → (u ≤ size_for p u) × (size_for p u ≤ chunk_units p)
  unfolding size_for
  size_fits u a b = (div-twice (chunk_units p) u a b, div-least (chunk_units p) (chunk_units p / u) (div-some (chunk_units p) u a b))

  pub size-rises : (u s : ℕ) → 1 ≤ u → u ≤ s → s ≤ chunk_units p → size_for p u ≤ size_for p s
  unfolding size_for
  size-rises u s a b c = div-falls (chunk_units p) (chunk_units p / s) (chunk_units p / u) (div-some (chunk_units p) s (omega arith) c) (div-falls (chunk_units p) u s a b)

  pub size-fixed : (u : ℕ) → 1 ≤ u → u ≤ chunk_units p → size_for p (size_for p u) ≡ size_for p u
  unfolding size_for
  size-fixed u a b =
      let n = chunk_units p in
      let k = n / u in
      let s = n / k in
      let up : k ≤ n / s = div-twice n k (div-some n u a b) (div-least n u a) in
      let down : n / s ≤ k = div-falls n u s a (div-twice n u a b) in
      ap (λ (x : ℕ). n / x) (le_antisymm down up)

  pub is-size : (u : ℕ) → 2 ≤ u → u ≤ chunk_units p → is_size p (size_for p u) ≡ true
  unfolding is_size
  is-size u a b =
      let f = size_fits u (omega arith) b in
      let l : u ≤ size_for p u = f.0 in
      rw (le-leb 2 (size_for p u) (omega arith), le-leb (size_for p u) (chunk_units p) f.1) (eq-eqb (size_for p (size_for p u)) (size_for p u) (size-fixed u (omega arith) b))

  pub size_is : (s : ℕ) → is_size p s ≡ true → (2 ≤ s) × (s ≤ chunk_units p) × (size_for p s ≡ s)
  unfolding is_size
  size_is s h = grind (arith, nat_tests)

  -- no smaller size has u units
  pub size-least : (u s : ℕ) → 1 ≤ u → is_size p s ≡ true → u ≤ s → size_for p u ≤ s
  size-least u s a h l = let q = size_is s h in let e = q.2 in let r = size-rises u s a l q.1 in omega arith

  -- the block of a value that is too large for the log and that a block can hold
  pub block_size_lem : (bytes : ℕ) → 257 ≤ bytes → bytes ≤ block_limit p → (is_size p (block_size p bytes) ≡ true) × (bytes + 8 ≤ 256 * block_size p bytes)
  unfolding block_size units_for block_limit
  block_size_lem bytes a b =
      let u = (8 + bytes + 255) / 256 in
      let few : 2 ≤ u = omega arith in
      let most : u ≤ chunk_units p = omega arith in
      let f : u ≤ size_for p u = (size_fits u (omega arith) most).0 in
      (is-size u few most, omega arith)

  -- Block j of size s of chunk c.
  module _ (lo : 12 ≤ p) (hi : p ≤ 16) (c s j : ℕ) (some' : 1 ≤ s) (within : j < chunk_units p / s) where
    room : j * s + s ≤ chunk_units p
    room = let a : suc j * s ≤ chunk_units p / s * s = mul-le-mul_right s within in let b = div-mul-le_self (chunk_units p) s in let e = suc-mul j s in omega arith

    pub block_at : (unit_chunk p (first_unit p c + j * s) ≡ c) × (unit_in p (first_unit p c + j * s) ≡ j * s)
    block_at = let r = room in unit-at p lo hi c (j * s) (omega arith)

    pub block-starts : (unit_in p (first_unit p c + j * s) % s ≡ 0) × (unit_in p (first_unit p c + j * s) + s ≤ chunk_units p)
    block-starts = rw block_at.1 (mul-mod_left j s, room)
