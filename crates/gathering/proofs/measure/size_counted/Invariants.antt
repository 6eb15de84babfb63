-- The loops of `gathering::measure::size_counted`.
use Rattle.spec.specs.Words.{words_of}
use Rattle.logs.specs.Cursor.{left}
use Rattle.gathering.specs.Measuring.{Tells}
use Rattle.gathering.proofs.Measures.{MeasuresOn}
use Rattle.gathering.proofs.measure.size_counted.Given as goal

abbrev pub invariant-loop-e : goal.invariant-loop-e
invariant-loop-e l = MeasuresOn l.size (words_of l.image) l.table l.at l.end l.tally l.cursor × Tells l.size (words_of l.image) l.counts l.at l.end l.counted

abbrev pub decreases-loop-e : goal.decreases-loop-e
decreases-loop-e l = left 0 (words_of l.image) l.cursor
