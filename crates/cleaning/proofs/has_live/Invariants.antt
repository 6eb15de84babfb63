-- The loops of `cleaning::has_live`. The loop's invariant: the bits still to be looked at tell.
use mathlib.Core.Path.{◌≡◌}
use Prim.Native.Nat.{◌+◌, ◌-◌, ◌%◌}
use Rattle.places.specs.Sizes.{power_of}
use Rattle.spec.specs.Places.{first_unit}
use Rattle.cleaning.specs.Plans.{any_bit}
use Rattle.cleaning.proofs.has_live.Given as goal

abbrev pub invariant-loop-i : goal.invariant-loop-i
invariant-loop-i l = any_bit l.size l.buffer (first_unit (power_of l.size) (l.chunk % 512)) l.units ≡ any_bit l.size l.buffer (first_unit (power_of l.size) (l.chunk % 512) + l.i) (l.units - l.i)
