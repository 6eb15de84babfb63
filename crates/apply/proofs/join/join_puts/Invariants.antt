-- The loops of `apply::join::join_puts`. The loop's invariant: what was left of the batch at the beginning says what is
-- left of it now, whatever the image shows.
use Rattle.std.proofs.Common.{◌-◌}
use Rattle.spec.specs.declared.Size.TheVariants as S
use Rattle.apply.specs.Joining.{PutsJoined}
use Rattle.apply.proofs.join.join_puts.Given as goal

abbrev pub invariant-loop-put : goal.invariant-loop-put
invariant-loop-put l = PutsJoined S.Small l.place l.end l.initial.buffer l.initial.table l.initial.keys l.initial.at l.buffer l.table l.keys l.at

abbrev pub decreases-loop-put : goal.decreases-loop-put
decreases-loop-put l = l.end - l.at
