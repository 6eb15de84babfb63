-- The loops of `batch::last_of`. The loop's invariant: the last item of all is the last so far, passed on over the
-- items not yet reached.
use Prim.Native.Nat.{◌-◌}
use Rattle.theory_log.specs.Fold.{fold_e}
use Rattle.batch.specs.Items.{pass, latest_of}
use Rattle.batch.proofs.Pass.{Passing}
use Rattle.batch.proofs.last_of.Given as goal

abbrev pub invariant-loop-at : goal.invariant-loop-at
invariant-loop-at l = Passing l.buffer l.words (latest_of l.key) l.at (fold_e (pass l.key) l.latest)

abbrev pub decreases-loop-at : goal.decreases-loop-at
decreases-loop-at l = l.end - l.at
