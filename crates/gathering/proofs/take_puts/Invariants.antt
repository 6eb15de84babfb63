-- The loops of `gathering::take_puts`. The loop's invariant: the run has come to `place`.
use Rattle.std.proofs.Common.{◌-◌, length}
use Rattle.spec.specs.Words.{words_of}
use Rattle.gathering.specs.Reading.{PutsTaken}
use Rattle.gathering.proofs.take_puts.Given as goal

abbrev pub invariant-loop-put : goal.invariant-loop-put
invariant-loop-put l = PutsTaken l.size (words_of l.copy) l.table l.initial.kept l.kept l.at l.until l.from l.initial.tally l.place l.tally

abbrev pub decreases-loop-put : goal.decreases-loop-put
decreases-loop-put l = length (words_of l.copy) - l.place
