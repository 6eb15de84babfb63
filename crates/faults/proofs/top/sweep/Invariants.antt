-- The loop of `faults::top::sweep`. Its invariant: what is found is found of the entries that are passed.
use Rattle.spec.specs.Words.{words_of}
use Rattle.logs.specs.Cursor.{left}
use Rattle.consistency.specs.Classes.{table_in, holds_keys}
use Rattle.faults.proofs.Sweeps.{Going}
use Rattle.faults.proofs.top.sweep.Given as goal

abbrev pub invariant-loop-e : goal.invariant-loop-e
invariant-loop-e l = Going l.size l.count (words_of l.image) (table_in l.known) (holds_keys l.known) l.classes.low l.classes.high l.initial.s l.initial.units l.units l.s l.cursor

abbrev pub decreases-loop-e : goal.decreases-loop-e
decreases-loop-e l = left l.count (words_of l.image) l.cursor
