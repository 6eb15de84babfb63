-- The loops of `gathering::measure::add_puts`. The loop's invariant: the run has come to `place`.
use Rattle.std.proofs.Common.{◌-◌, length}
use Rattle.spec.specs.Words.{words_of}
use Rattle.gathering.specs.Measuring.{Hastened}
use Rattle.gathering.proofs.measure.add_puts.Given as goal

abbrev pub invariant-loop-put : goal.invariant-loop-put
invariant-loop-put l = Hastened l.size (words_of l.image) l.table l.until l.from l.initial.tally l.place l.tally

abbrev pub decreases-loop-put : goal.decreases-loop-put
decreases-loop-put l = length (words_of l.image) - l.place
