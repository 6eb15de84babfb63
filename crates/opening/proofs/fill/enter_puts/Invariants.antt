-- The loop of `opening::fill::enter_puts`. Its invariant: the pass has come to where the run is, with the table's
-- numbers as they are.
use Prim.Native.Nat.{◌-◌}
use lib.ListN.{length}
use Rattle.spec.specs.Words.{words_of}
use Rattle.opening.specs.Pass.{Hastened}
use Rattle.opening.proofs.fill.enter_puts.Given as goal

abbrev pub invariant-loop-put : goal.invariant-loop-put
invariant-loop-put l = Hastened l.size (words_of l.image) l.end l.fn.held.fits l.initial.table l.fn.held.keys l.fn.held.single l.initial.buffer l.at l.table l.run.keys l.run.single l.buffer l.run.from l.run.at

abbrev pub decreases-loop-put : goal.decreases-loop-put
decreases-loop-put l = length (words_of l.image) - l.run.at
