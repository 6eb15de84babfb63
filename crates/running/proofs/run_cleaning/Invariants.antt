-- The loops of `running::run_cleaning`. The loop's invariant: all actions up to the next one were stores, and are made.
use mathlib.Core.Path.{◌≡◌}
use Prim.Native.Nat.{◌-◌}
use Rattle.session.specs.declared.Control.{Control}
use Rattle.running.proofs.Runs.{StoredTo}
use Rattle.running.proofs.run_cleaning.Given as goal

abbrev pub invariant-loop-at : goal.invariant-loop-at
invariant-loop-at l = (c : Control) → c.next ≡ l.initial.at → StoredTo c l.setup l.buffer l.initial.image l.image l.at

abbrev pub decreases-loop-at : goal.decreases-loop-at
decreases-loop-at l = l.last - l.at
