-- The loop of `consistency::partition::collect`. Its invariant: the table is that of the entries of the range that are
-- passed.
use lib.ListN.{length}
use Rattle.spec.specs.Words.{words_of}
use Rattle.logs.specs.Cursor.{left}
use Rattle.consistency.proofs.Collects.{Reached}
use Rattle.consistency.proofs.partition.collect.Given as goal

abbrev pub invariant-loop-e : goal.invariant-loop-e
invariant-loop-e l = Reached l.size l.count (words_of l.image) (length l.initial.table) l.table l.keys l.classes.low l.classes.high l.cursor

abbrev pub decreases-loop-e : goal.decreases-loop-e
decreases-loop-e l = left l.count (words_of l.image) l.cursor
