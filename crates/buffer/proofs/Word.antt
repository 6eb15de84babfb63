-- One bit of a word set or unset by `|`, `&` and `^` with a power of two: every other bit is as it was.
-- Assumes nothing.
use mathlib.Core.Path.{◌≡◌, refl, ◌∙◌, ap}
use mathlib.Core.Logic.{by_cases}
use Prim.Native.Nat.{ℕ, zero, suc, ◌+◌, ◌-◌, ◌*◌, ◌/◌, ◌%◌, ◌^◌, ◌<◌}
use native.Mathlib.Nat.{mod-lt, div_self, div-eq_of_lt, mul-div_cancel, mul-mod_left, pow-suc, one-mul}
use native.Mathlib.Omega.{arith}
use native.Mathlib.Decide.{dec_lt}
use lib.Dec.{lit<}
use lib.Pow.{pow_pos, pow-lt, pow-add, shl_exact}
use lib.Bits.{bit_and, bit_or, bit_xor, and_shr, or_shr, xor_shr, and_mod, or_mod, xor_mod, or_zero_r, and_zero_r, xor_zero_r}

-- the power as the code shifts it
pub shifted : (k : ℕ) → k < 64 → 1 * 2 ^ k % 2 ^ 64 ≡ 2 ^ k
shifted k l = let e = shl_exact 1 k 64 (lit< tt) (omega arith) in e ∙ one-mul (2 ^ k)

-- bit j of 2 ^ k
power-same : (k : ℕ) → 2 ^ k / 2 ^ k % 2 ≡ 1
power-same k = rw (div_self (pow_pos k))

power_below : (j d : ℕ) → 2 ^ (suc d + j) / 2 ^ j % 2 ≡ 0
power_below j d = rw (pow-add 2 (suc d) j, mul-div_cancel (2 ^ suc d) (pow_pos j), pow-suc 2 d, mul-mod_left (2 ^ d) 2)

power-other : (j k : ℕ) → (j ≡ k → ⊥) → 2 ^ k / 2 ^ j % 2 ≡ 0
power-other j k n =
    by_cases (dec_lt j k)
    (λ l.
    let e : suc (k - j - 1) + j ≡ k = omega arith in
    rw e at (power_below j (k - j - 1)))
    (λ l.
    let h : k < j = omega arith in
    rw (div-eq_of_lt (pow-lt h)))

-- bits alone
or-one : (x : ℕ) → x < 2 → bit_or x 1 ≡ 1
or-one zero l = refl
or-one (suc zero) l = refl
or-one (suc (suc x)) l = absurd (omega arith)

without-one : (x : ℕ) → x < 2 → bit_xor x (bit_and x 1) ≡ 0
without-one zero l = refl
without-one (suc zero) l = refl
without-one (suc (suc x)) l = absurd (omega arith)

module _ (w k : ℕ) where
  or_at : (j : ℕ) → bit_or w (2 ^ k) / 2 ^ j % 2 ≡ bit_or (w / 2 ^ j % 2) (2 ^ k / 2 ^ j % 2)
  or_at j = ap (λ x. x % 2) (or_shr w (2 ^ k) j) ∙ or_mod (w / 2 ^ j) (2 ^ k / 2 ^ j) 1

  without_at : (j : ℕ) → bit_xor w (bit_and w (2 ^ k)) / 2 ^ j % 2 ≡ bit_xor (w / 2 ^ j % 2) (bit_and (w / 2 ^ j % 2) (2 ^ k / 2 ^ j % 2))
  without_at j =
      ap (λ x. x % 2) (xor_shr w (bit_and w (2 ^ k)) j ∙ ap (bit_xor (w / 2 ^ j)) (and_shr w (2 ^ k) j))
      ∙ xor_mod (w / 2 ^ j) (bit_and (w / 2 ^ j) (2 ^ k / 2 ^ j)) 1
      ∙ ap (bit_xor (w / 2 ^ j % 2)) (and_mod (w / 2 ^ j) (2 ^ k / 2 ^ j) 1)

  pub set_same : bit_or w (2 ^ k) / 2 ^ k % 2 ≡ 1
  set_same = or_at k ∙ ap (bit_or (w / 2 ^ k % 2)) (power-same k) ∙ or-one (w / 2 ^ k % 2) (mod-lt (w / 2 ^ k) (omega arith))

  pub set_other : (j : ℕ) → (j ≡ k → ⊥) → bit_or w (2 ^ k) / 2 ^ j % 2 ≡ w / 2 ^ j % 2
  set_other j n = or_at j ∙ ap (bit_or (w / 2 ^ j % 2)) (power-other j k n) ∙ or_zero_r (w / 2 ^ j % 2)

  pub unset-same : bit_xor w (bit_and w (2 ^ k)) / 2 ^ k % 2 ≡ 0
  unset-same =
      without_at k
      ∙ ap (λ x. bit_xor (w / 2 ^ k % 2) (bit_and (w / 2 ^ k % 2) x)) (power-same k)
      ∙ without-one (w / 2 ^ k % 2) (mod-lt (w / 2 ^ k) (omega arith))

  pub unset-other : (j : ℕ) → (j ≡ k → ⊥) → bit_xor w (bit_and w (2 ^ k)) / 2 ^ j % 2 ≡ w / 2 ^ j % 2
  unset-other j n =
      without_at j
      ∙ ap (λ x. bit_xor (w / 2 ^ j % 2) (bit_and (w / 2 ^ j % 2) x)) (power-other j k n)
      ∙ ap (bit_xor (w / 2 ^ j % 2)) (and_zero_r (w / 2 ^ j % 2))
      ∙ xor_zero_r (w / 2 ^ j % 2)
