-- The loop of `opening::fill::fill`. Its invariant: table and sums are those of the entries passed so far, or their
-- keys do not fit.
use lib.ListN.{length}
use Rattle.spec.specs.Words.{words_of}
use Rattle.logs.specs.Cursor.{left}
use Rattle.volatile.specs.Change.{SumsAlone}
use Rattle.opening.specs.Pass.{Passing}
use Rattle.opening.proofs.fill.fill.Given as goal

abbrev pub invariant-loop-cursor : goal.invariant-loop-cursor
invariant-loop-cursor l = Passing l.size l.count (words_of l.image) (length l.initial.table) l.table l.held.keys l.held.fits l.held.single l.direct l.buffer 0 0 l.cursor × SumsAlone l.initial.buffer l.buffer

abbrev pub decreases-loop-cursor : goal.decreases-loop-cursor
decreases-loop-cursor l = left l.count (words_of l.image) l.cursor
