-- The loops of `gathering::measure::count_keys`. The loop's invariant: the counts so far, and those of the entries
-- left, are those of all.
use Rattle.spec.specs.Words.{words_of}
use Rattle.logs.specs.Cursor.{left}
use Rattle.gathering.proofs.Kept.{CountsOn}
use Rattle.gathering.proofs.measure.count_keys.Given as goal

abbrev pub invariant-loop-e : goal.invariant-loop-e
invariant-loop-e l = CountsOn l.size (words_of l.image) l.at l.end l.initial.counts l.counts l.cursor

abbrev pub decreases-loop-e : goal.decreases-loop-e
decreases-loop-e l = left 0 (words_of l.image) l.cursor
