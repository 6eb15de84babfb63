-- The loops of `running::stage::store_area`. The loop's invariant: what is saved so far, with whatever is saved behind
-- it, is one row.
use Prim.Native.Nat.{◌-◌, ◌≤◌}
use Rattle.running.specs.Stores.{area_word}
use Rattle.running.proofs.Stores.{SoFar}
use Rattle.running.proofs.stage.store_area.Given as goal

abbrev pub invariant-loop-i : goal.invariant-loop-i
invariant-loop-i l = SoFar (area_word l.buffer) l.start l.initial.i l.i l.initial.image l.image × (l.i ≤ l.end)

abbrev pub decreases-loop-i : goal.decreases-loop-i
decreases-loop-i l = l.end - l.i
