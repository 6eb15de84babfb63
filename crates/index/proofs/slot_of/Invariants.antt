-- The loop of `slot_of`. The loop's invariant is `Probing`: the probing under way.
use Rattle.std.proofs.Common.{◌-◌}
use Rattle.index.proofs.Probing.{Probing}
use Rattle.index.proofs.slot_of.Given as goal

abbrev pub invariant-loop-passed : goal.invariant-loop-passed
invariant-loop-passed l = Probing l.table l.key l.n l.s (l.n - l._passed)
