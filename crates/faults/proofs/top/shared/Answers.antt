-- `faults::top::shared` meets its contract: one number is stored, or none.
-- Assumes nothing.
use mathlib.Core.Path.{sym, ◌∙◌}
use Rattle.faults.proofs.Units.{shared-stored, shared-past, shared-direct}
use Rattle.faults.proofs.top.shared.Goals as goal
use Rattle.faults.proofs.top.shared.Goals.{then-not-points-via-then-not-points, then-not-points-via-else-not-points+then-units-unit}

pub returns-then-not-points : goal.returns-then-not-points
returns-then-not-points c =
    elim c.then-not-points.branch [
      | then-not-points-via-then-not-points w ↦ shared-direct _ c.args.e _ _ (sym c.points.ensures ∙ w.if-not-points.true)
      | then-not-points-via-else-not-points+then-units-unit w ↦ shared-past _ c.args.e _ _ w.if-units-unit.true (sym c.points.ensures ∙ w.if-not-points.false)
    ]

pub returns : goal.returns
returns c = shared-stored _ c.args.e _ _ c.if-units-unit.false c.join-j.result c.join-j.ensures (sym c.points.ensures ∙ c.if-not-points.false)
