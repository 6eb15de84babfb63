-- The loop of `remove`. The loop's invariant is `Moving`: the removal under way.
use Rattle.std.proofs.Common.{◌≡◌, ◌-◌, ◌/◌, length}
use Rattle.index.proofs.Removal.{Moving}
use Rattle.index.proofs.remove.Given as goal

abbrev pub invariant-loop-step : goal.invariant-loop-step
invariant-loop-step l = (l.n ≡ length l.initial.table / 2) × Moving l.n l.initial.table l.table l.at l.hole l.j (l.n - l._step) l.key
