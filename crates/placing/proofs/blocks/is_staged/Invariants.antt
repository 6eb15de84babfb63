-- The loops of `placing::blocks::is_staged`. The loop's invariant: an item points to the block exactly if one not yet
-- reached does.
use Prim.Native.Nat.{◌-◌}
use Rattle.placing.proofs.Staged.{Passing}
use Rattle.placing.proofs.blocks.is_staged.Given as goal

abbrev pub invariant-loop-at : goal.invariant-loop-at
invariant-loop-at l = Passing l.buffer l.words l.unit.0 l.at

abbrev pub decreases-loop-at : goal.decreases-loop-at
decreases-loop-at l = l.end - l.at
