-- The loops of `apply::remove::remove_entries`.
use Rattle.spec.specs.Words.{words_of}
use Rattle.logs.specs.Cursor.{left}
use Rattle.apply.proofs.Walks.{LeavesOn}
use Rattle.apply.proofs.remove.remove_entries.Given as goal

abbrev pub invariant-loop-run : goal.invariant-loop-run
invariant-loop-run l = LeavesOn l.size (words_of l.image) l.initial.table l.keys l.at l.end l.from l.until l.table l.count l.copy l.cursor

abbrev pub decreases-loop-run : goal.decreases-loop-run
decreases-loop-run l = left 0 (words_of l.image) l.cursor
