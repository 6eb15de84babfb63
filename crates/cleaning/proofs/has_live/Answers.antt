-- `cleaning::has_live` meets its contract.
-- Assumes nothing.
use mathlib.Core.Path.{ap, sym, ◌∙◌}
use Prim.Native.Nat.{ℕ, ◌+◌, ◌-◌, ◌%◌}
use native.Mathlib.Omega.{arith}
use Rattle.places.specs.Sizes.{power_of}
use Rattle.spec.specs.Places.{first_unit}
use Rattle.cleaning.proofs.Finding.{bit-start, bit-here, bit-next, bit-none, turn-bit}
use Rattle.cleaning.specs.Plans.{any_bit}
use Rattle.cleaning.proofs.has_live.Goals as goal

pub loop-i-init : goal.loop-i-init
loop-i-init c = let u = first_unit (power_of c.args.size) (c.args.chunk % 512) in let n = c.units-units.result in bit-start c.args.size _ u (u + 0) n (n - 0) (omega arith) (omega arith)

pub returns-then-has_bit : goal.returns-then-has_bit
returns-then-has_bit c = let a = c.args in let at = c.loop-i in let e = c.units-units.ensures.0 in let n = c.units-units.result in let u = first_unit (power_of a.size) (a.chunk % 512) in let bit = turn-bit a.size a.buffer.now a.chunk at.i c.of.result.0 _ (omega arith) c.of.ensures c.has_bit.ensures in sym (ap (λ (j : ℕ). any_bit a.size a.buffer.now u j) (sym e) ∙ at.invariant ∙ bit-here a.size _ _ (n - 1 - at.i) (n - at.i) (omega arith) (bit ∙ c.if-has_bit.true))

pub loop-i-preserved : goal.loop-i-preserved
loop-i-preserved c = let a = c.args in let at = c.loop-i in let e = c.units-units.ensures.0 in let n = c.units-units.result in let u = first_unit (power_of a.size) (a.chunk % 512) in let bit = turn-bit a.size a.buffer.now a.chunk at.i c.of.result.0 _ (omega arith) c.of.ensures c.has_bit.ensures in at.invariant ∙ bit-next a.size _ (u + at.i) (u + (at.i + 1)) (n - (at.i + 1)) (n - at.i) (omega arith) (omega arith) (bit ∙ c.if-has_bit.false)

pub returns : goal.returns
returns c = let a = c.args in let at = c.loop-i in let e = c.units-units.ensures.0 in let n = c.units-units.result in let u = first_unit (power_of a.size) (a.chunk % 512) in sym (ap (λ (j : ℕ). any_bit a.size a.buffer.now u j) (sym e) ∙ at.invariant ∙ bit-none a.size _ _ (n - at.i) (omega arith))
