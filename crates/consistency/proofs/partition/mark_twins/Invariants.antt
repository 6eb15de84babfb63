-- The loops of `consistency::partition::mark_twins`. The loop's invariant: the slots below s are seen.
use mathlib.Core.Path.{◌≡◌}
use Prim.Native.Nat.{◌-◌, ◌/◌, ◌≤◌}
use lib.ListN.{length}
use Rattle.consistency.proofs.Twins.{Seen}
use Rattle.consistency.proofs.partition.mark_twins.Given as goal

abbrev pub invariant-loop-s : goal.invariant-loop-s
invariant-loop-s l = (l.s ≤ l.n) × (l.n ≡ length l.table / 2) × (length l.marks ≡ length l.initial.marks) × Seen l.table l.marks l.s

abbrev pub decreases-loop-s : goal.decreases-loop-s
decreases-loop-s l = l.n - l.s
