-- The loop of `consistency::sweep`. Its invariant: the tests and the marks of the entries passed, of which none has
-- failed.
use Rattle.spec.specs.Words.{words_of}
use Rattle.logs.specs.Cursor.{left}
use Rattle.consistency.specs.Classes.{table_in, holds_keys}
use Rattle.consistency.proofs.Sweeps.{Going}
use Rattle.consistency.proofs.sweep.Given as goal

abbrev pub invariant-loop-cursor : goal.invariant-loop-cursor
invariant-loop-cursor l = Going l.size l.count (words_of l.image) (table_in l.known) (holds_keys l.known) l.asked.single l.asked.marks.now l.asked.classes.low l.asked.classes.high l.initial.s l.initial.buffer l.buffer l.s l.cursor

abbrev pub decreases-loop-cursor : goal.decreases-loop-cursor
decreases-loop-cursor l = left l.count (words_of l.image) l.cursor
