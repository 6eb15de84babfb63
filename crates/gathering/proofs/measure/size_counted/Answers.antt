-- `gathering::measure::size_counted` meets its contract.
-- Assumes nothing.
use Rattle.forward.proofs.Walks.{ended}
use Rattle.gathering.proofs.Kept.{tells-start}
use Rattle.gathering.proofs.Measures.{measures-start, run-measures, measures-end, measures-next}
use Rattle.gathering.proofs.measure.size_counted.Goals as goal
use Rattle.gathering.proofs.measure.size_counted.Goals.{in_default-via-in-Ok+in_default, in_default-via-in_default}

pub loop-e-init : goal.loop-e-init
loop-e-init c = (measures-start _ _ _ _ _, tells-start c.args.size _ _ _ _ c.requires)

pub returns-in_default : goal.returns-in_default
returns-in_default c =
    elim c.in_default.branch [
      | in_default-via-in-Ok+in_default w ↦ measures-end _ _ _ _ _ _ _ (run-measures _ _ _ _ _ _ _ _ c.add_puts-run.ensures _ _ _ c.loop-e.invariant.0) (ended _ _ _ _ c.next_in_log.ensures (λ e q. cc))
      | in_default-via-in_default w ↦ measures-end _ _ _ _ _ _ _ (run-measures _ _ _ _ _ _ _ _ c.add_puts-run.ensures _ _ _ c.loop-e.invariant.0) (ended _ _ _ _ c.next_in_log.ensures (λ e q. cc))
    ]

pub loop-e-preserved : goal.loop-e-preserved
loop-e-preserved c =
    let o = c.count_once-counted.ensures in
    let t = c.loop-e.invariant.1 in (
      measures-next _ _ _ _ _ _ _ (run-measures _ _ _ _ _ _ _ _ c.add_puts-run.ensures _ _ _ c.loop-e.invariant.0) _ (rw c.in-Ok-Some.field-0-is at c.in-Ok-Some.ensures) _ (o.decides t) _ c.is_kept-kept.ensures _ c.add_kept-tally.ensures,
      o.tells t,
    )
