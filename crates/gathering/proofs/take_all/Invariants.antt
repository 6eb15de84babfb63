-- The loops of `gathering::take_all`.
use Rattle.spec.specs.Words.{words_of}
use Rattle.logs.specs.Cursor.{left}
use Rattle.gathering.specs.Reading.{Collecting}
use Rattle.gathering.proofs.take_all.Given as goal

abbrev pub invariant-loop-e : goal.invariant-loop-e
invariant-loop-e l = Collecting l.size (words_of l.copy) l.table l.kept l.at l.n l.tally l.cursor

abbrev pub decreases-loop-e : goal.decreases-loop-e
decreases-loop-e l = left 0 (words_of l.copy) l.cursor
