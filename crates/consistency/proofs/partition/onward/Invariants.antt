-- The loops of `consistency::partition::onward`. The loop's invariant: the chunks before `next` are passed.
use Prim.Native.Nat.{◌-◌}
use Rattle.places.specs.Sizes.{power_of}
use Rattle.spec.specs.Words.{words_of}
use Rattle.consistency.specs.Passing.{Onward}
use Rattle.consistency.proofs.partition.onward.Given as goal

abbrev pub invariant-loop-next : goal.invariant-loop-next
invariant-loop-next l = Onward (power_of l.size) l.count (words_of l.image) l.c l.next

abbrev pub decreases-loop-next : goal.decreases-loop-next
decreases-loop-next l = l.count - l.next.chunk
