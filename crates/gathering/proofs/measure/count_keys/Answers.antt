-- `gathering::measure::count_keys` meets its contract.
-- Assumes nothing.
use Rattle.std.proofs.Common.{length, refl}
use Rattle.forward.proofs.Walks.{ended}
use Rattle.gathering.proofs.Kept.{counts_start, counts-end, counts-next}
use Rattle.gathering.proofs.measure.count_keys.Goals as goal

pub loop-e-init : goal.loop-e-init
loop-e-init c =
    counts_start c.args.size _ _ _ _ (length c.args.counts.now) c.clear.ensures

pub returns-in_default : goal.returns-in_default
returns-in_default c = counts-end _ _ _ _ _ _ _ c.loop-e.invariant _ c.clear.ensures (ended _ _ _ _ c.next_in_log.ensures (λ e q. cc))

pub returns-in_default-2 : goal.returns-in_default-2
returns-in_default-2 c = counts-end _ _ _ _ _ _ _ c.loop-e.invariant _ c.clear.ensures (ended _ _ _ _ c.next_in_log.ensures (λ e q. cc))

pub loop-e-smaller : goal.loop-e-smaller
loop-e-smaller c = (rw c.in-Ok-Some.field-0-is at c.in-Ok-Some.ensures).falls

pub loop-e-preserved : goal.loop-e-preserved
loop-e-preserved c =
    counts-next _ _ _ _ _ _ _ c.loop-e.invariant _ (rw c.in-Ok-Some.field-0-is at c.in-Ok-Some.ensures) _ _ c.get-more.ensures refl _
    c.insert_or_update.ensures.1
