-- `start_of` meets its contract. Assumes nothing.
use Prim.Native.Nat.{ℕ, ◌%◌, ◌<◌, ◌≤◌}
use native.Mathlib.Nat.{mul-le-mul}
use native.Mathlib.Omega.{arith}
use Rattle.index.specs.Index.{mix_of, hash_of}
use Rattle.index.proofs.Slots.{mix-small}
use Rattle.index.proofs.start_of.Goals as goal

hash-small : (key n : ℕ) → hash_of key n < 0x1_0000_0000
unfolding hash_of
hash-small key n =
    let m : mix_of key ≤ 0xFFFF_FFFF = omega (arith, mix-small key) in
    let k : n % 0x1_0000_0000 ≤ 0xFFFF_FFFF = omega arith in
    omega (arith, mul-le-mul m k)

pub overflow_mul-result : goal.overflow_mul-result
overflow_mul-result c = let s = hash-small c.args.key c.args.n in let e = c.hash.ensures in record { fits = omega arith }
