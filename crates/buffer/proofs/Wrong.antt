-- What the code would store after a must-fail edit breaks its contract: one computed case each.
-- Assumes nothing.
use mathlib.Core.Path.{◌≡◌, sym}
use mathlib.Core.Bool.{true, false}
use mathlib.Core.List.{List}
use Prim.Native.Nat.{ℕ, ◌*◌, ◌%◌, ◌^◌}
use native.Mathlib.Omega.{arith}
use lib.Bits.{bit_and, bit_or, bit_xor}
use lib.Dec.{lit<}
use lib.ListN.{set, replicate}
use Rattle.spec.specs.declared.Size.TheVariants as S
use Rattle.buffer.specs.Areas.{bits_start, buffer_words}
use Rattle.buffer.specs.Bits.{has_bit, BitWritten}

-- a buffer of which the first word of bits, that of unit 0, is w
abbrev buffer : ℕ → List ℕ
buffer w = set (replicate buffer_words 0) bits_start w

not_so : true ≡ false → ⊥
not_so h = let z : ◌≡◌ {A = ℕ} 0 1 = cc in omega arith

sets-next-unit : BitWritten S.Small (buffer 0) (buffer (bit_or 0 (2 * 2 ^ 0 % 2 ^ 64))) 0 true → ⊥
unfolding has_bit
sets-next-unit r = not_so (sym (r.at (lit< tt)))

toggles-on-unset : BitWritten S.Small (buffer 0) (buffer (bit_xor 0 (1 * 2 ^ 0 % 2 ^ 64))) 0 false → ⊥
unfolding has_bit
toggles-on-unset r = not_so (r.at (lit< tt))

unsets-all-others : BitWritten S.Small (buffer 3) (buffer (bit_and 3 (bit_and 3 (1 * 2 ^ 0 % 2 ^ 64)))) 0 false → ⊥
unfolding has_bit
unsets-all-others r = not_so (r.at (lit< tt))
