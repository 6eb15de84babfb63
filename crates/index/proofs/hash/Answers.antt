-- `hash` meets its contract. Assumes nothing.
use Prim.Native.Nat.{◌%◌, ◌≤◌}
use native.Mathlib.Nat.{mul-le-mul}
use native.Mathlib.Omega.{arith}
use Rattle.index.specs.Index.{hash_of}
use Rattle.index.proofs.Slots.{mix-small}
use Rattle.index.proofs.hash.Goals as goal

pub overflow_mul-result : goal.overflow_mul-result
overflow_mul-result c =
    let m : c.mix-m.result ≤ 0xFFFF_FFFF = omega (arith, mix-small c.args.key) in
    let k : c.args.n % 0x1_0000_0000 ≤ 0xFFFF_FFFF = omega arith in
    record { fits = omega (arith, mul-le-mul m k) }

pub returns : goal.returns
unfolding hash_of
returns c = rw (← c.mix-m.ensures)
