-- A shift by whole bytes, as the code tests a value's last word.
-- Assumes nothing.
use mathlib.Core.Path.{◌≡◌, refl, sym, ◌∙◌}
use mathlib.Core.List.{List}
use Prim.Native.Nat.{ℕ, zero, suc, ◌+◌, ◌*◌, ◌/◌, ◌%◌, ◌^◌, ◌<◌}
use native.Mathlib.Nat.{pow-suc, one-mul}
use native.Mathlib.Omega.{arith}
use lib.Dec.{lit<, ltb}
use lib.ListN.{get_or, drop}
use lib.Pow.{pow-add, shl_exact}
use lib.Seq.{get_or-drop}
use borrow.Author.Tests.{ne_eqb}
use Rattle.spec.specs.Log.{filled}

power : (r : ℕ) → 2 ^ (8 * r) ≡ 256 ^ r
power zero = refl
power (suc r) = let e : 8 * suc r ≡ 8 * r + 8 = omega arith in rw (e, pow-add 2 (8 * r) 8, power r) (sym (pow-suc 256 r))

pub shift-bytes : (r : ℕ) → r < 8 → 1 * 2 ^ (8 * r) % 2 ^ 64 ≡ 256 ^ r
shift-bytes r h = shl_exact 1 (8 * r) 64 (lit< tt) (omega arith) ∙ one-mul (2 ^ (8 * r)) ∙ power r

-- the last of a value's words shows whether it is zero-filled
pub fill-last : (x at words : ℕ) (ws : List ℕ) → (x % 8 ≡ 0 → ⊥) → words ≡ (x + 7) / 8 → ltb (get_or ws (at + (1 + words)) 0) (1 * 2 ^ (8 * (x % 8)) % 2 ^ 64) ≡ filled 0 x (drop at ws)
fill-last x at words ws odd w =
    let i : at + (1 + words) ≡ at + (2 + x / 8) = omega arith in
    rw (i, ne_eqb (x % 8) 0 odd, shift-bytes (x % 8) (omega arith), get_or-drop)
