-- The loop of `consistency::partition::pass_over`. Its invariant: the pass has come to `place`.
use Prim.Native.Nat.{◌-◌}
use Rattle.spec.specs.Words.{words_of}
use Rattle.consistency.specs.Passing.{PassedOver}
use Rattle.consistency.proofs.partition.pass_over.Given as goal

abbrev pub invariant-loop-place : goal.invariant-loop-place
invariant-loop-place l = PassedOver (words_of l.image) l.end l.asked.single l.asked.marks.now l.asked.classes.low l.asked.classes.high l.at l.place

abbrev pub decreases-loop-place : goal.decreases-loop-place
decreases-loop-place l = l.stop - l.place
