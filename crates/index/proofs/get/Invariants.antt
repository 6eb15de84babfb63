-- The loops of `index::get`. The loop's invariant: `BehindAt` holds while the slots behind the first are probed, and
-- then `RoundAt`.
use Prim.Native.Nat.{◌-◌}
use Rattle.index.proofs.Probing.{BehindAt, RoundAt}
use Rattle.index.proofs.get.Given as goal

abbrev pub invariant-loop-slot : goal.invariant-loop-slot
invariant-loop-slot l = BehindAt l.table l.key l.n l.slot

abbrev pub decreases-loop-slot : goal.decreases-loop-slot
decreases-loop-slot l = l.words - l.slot

abbrev pub invariant-loop-low : goal.invariant-loop-low
invariant-loop-low l = RoundAt l.table l.key l.n l.low

abbrev pub decreases-loop-low : goal.decreases-loop-low
decreases-loop-low l = l.words - l.low
