-- The loops of `batch::only_deletes`. The loop's invariant: all items are deletes exactly if those not yet reached are.
use Prim.Native.Nat.{◌-◌}
use Rattle.spec.specs.Basics.{all}
use Rattle.spec.specs.Plans.{is_delete}
use Rattle.batch.proofs.Pass.{Passing}
use Rattle.batch.proofs.only_deletes.Given as goal

abbrev pub invariant-loop-at : goal.invariant-loop-at
invariant-loop-at l = Passing l.buffer l.words (all is_delete) l.at (all is_delete)

abbrev pub decreases-loop-at : goal.decreases-loop-at
decreases-loop-at l = l.end - l.at
