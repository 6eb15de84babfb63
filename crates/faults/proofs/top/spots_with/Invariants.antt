-- The loops of `faults::top::spots_with`. The loop's invariant: the classes below `low` are done.
use mathlib.Core.Path.{◌≡◌}
use Prim.Native.Nat.{◌+◌, ◌-◌, ◌*◌, ◌^◌, ◌≤◌}
use lib.ListN.{length}
use Rattle.spec.specs.Words.{words_of}
use Rattle.faults.proofs.Sweeps.{Done}
use Rattle.faults.proofs.top.spots_with.Given as goal

abbrev pub invariant-loop-low : goal.invariant-loop-low
invariant-loop-low l = (length l.own ≡ 65536) × (length l.units ≡ length l.initial.units) × (l.low ≤ 2 ^ 32) × (1 ≤ l.width) × (l.width ≤ 2 ^ 32) × Done l.size l.count (words_of l.image) l.units l.s l.low

abbrev pub decreases-loop-low : goal.decreases-loop-low
decreases-loop-low l = (2 ^ 32 - l.low) * 2 ^ 33 + l.width
