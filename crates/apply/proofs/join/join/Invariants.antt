-- The loops of `apply::join::join`. The loop's invariant: what was left of the batch at the beginning says what is left
-- of it now.
use Rattle.std.proofs.Common.{◌-◌}
use Rattle.spec.specs.Words.{words_of}
use Rattle.apply.specs.Joining.{Going}
use Rattle.apply.proofs.join.join.Given as goal

abbrev pub invariant-loop-item : goal.invariant-loop-item
invariant-loop-item l = Going l.size (words_of l.image) l.initial.buffer l.initial.table l.initial.keys l.place l.initial.at l.end l.buffer l.table l.keys l.at

abbrev pub decreases-loop-item : goal.decreases-loop-item
decreases-loop-item l = l.end - l.at
