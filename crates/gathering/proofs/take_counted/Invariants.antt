-- The loops of `gathering::take_counted`.
use Rattle.spec.specs.Words.{words_of}
use Rattle.logs.specs.Cursor.{left}
use Rattle.gathering.specs.Measuring.{Tells}
use Rattle.gathering.proofs.Passes.{RestOn}
use Rattle.gathering.proofs.take_counted.Given as goal

abbrev pub invariant-loop-e : goal.invariant-loop-e
invariant-loop-e l = RestOn l.size (words_of l.copy) l.table l.initial.kept l.at l.n l.initial.cursor l.initial.tally l.kept l.tally l.cursor × Tells l.size (words_of l.copy) l.counts 0 l.n l.counted

abbrev pub decreases-loop-e : goal.decreases-loop-e
decreases-loop-e l = left 0 (words_of l.copy) l.cursor
