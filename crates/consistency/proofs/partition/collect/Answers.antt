-- `consistency::partition::collect` meets its contract.
-- Assumes nothing.
use mathlib.Core.Path.{refl, ap}
use native.Mathlib.Omega.{arith}
use lib.ListN.{length}
use Rattle.spec.specs.Words.{words_of}
use Rattle.volatile.proofs.Shows.{own_alone}
use Rattle.consistency.proofs.Collects.{reached-start, reached-over, reached-next, reached-done, reached-full}
use Rattle.consistency.proofs.partition.collect.Goals as goal

pub loop-e-init : goal.loop-e-init
loop-e-init c =
    reached-start c.args.size c.args.count (words_of c.args.image.now) c.args.classes.low
    c.args.classes.high (length c.args.table.now) _ c.clear.ensures _
    c.first_cursor-cursor.ensures

pub returns-in-Ok-None : goal.returns-in-Ok-None
returns-in-Ok-None c =
    reached-done _ _ _ _ _ _ _ _ _
    (reached-over _ _ _ _ _ _ _ _ _ _ _ c.loop-e.invariant _ refl _ c.pass_over-at.ensures) _
    (ap length c.clear.ensures) (rw c.in-Ok-None.field-0-is at c.in-Ok-None.ensures)

pub returns-in-Err : goal.returns-in-Err
returns-in-Err c =
    reached-full _ _ _ _ _ _ _ _ _
    (reached-over _ _ _ _ _ _ _ _ _ _ _ c.loop-e.invariant _ refl _ c.pass_over-at.ensures) _
    (ap length c.clear.ensures) _ refl _ refl

pub returns-in_err-keys-in-Ok-Some : goal.returns-in_err-keys-in-Ok-Some
returns-in_err-keys-in-Ok-Some c =
    rw c.from_residual.ensures
    (reached-full _ _ _ _ _ _ _ _ _
    (reached-over _ _ _ _ _ _ _ _ _ _ _ c.loop-e.invariant _ refl _ c.pass_over-at.ensures) _
    (ap length c.clear.ensures) _ c.enter.ensures.sized _ refl)

pub loop-e-smaller : goal.loop-e-smaller
loop-e-smaller c =
    let f = (rw c.in-Ok-Some.field-0-is at c.in-Ok-Some.ensures).falls in
    let g = c.pass_over-at.ensures.nearer c.args.count c.loop-e.cursor.chunk in
    omega arith

pub loop-e-preserved : goal.loop-e-preserved
loop-e-preserved c =
    reached-next _ _ _ _ _ _ _ _ _
    (reached-over _ _ _ _ _ _ _ _ _ _ _ c.loop-e.invariant _ refl _ c.pass_over-at.ensures) _
    (rw c.in-Ok-Some.field-0-is at c.in-Ok-Some.ensures)
    c.single_entry-own.result
    (own_alone _ _ _ _ _ _ _ c.extent_of-extent.ensures c.single_entry-own.ensures) _ _ _ c.enter.ensures c.in_ok-keys-in-Ok-Some.was
