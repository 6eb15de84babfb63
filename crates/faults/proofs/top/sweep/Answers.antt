-- `faults::top::sweep` meets its contract.
-- Assumes nothing.
use mathlib.Core.Path.{refl}
use native.Mathlib.Omega.{arith}
use Rattle.spec.specs.Words.{words_of}
use Rattle.consistency.specs.Classes.{table_in, holds_keys}
use Rattle.faults.proofs.Sweeps.{going_start, going-over, going_done, going-wrong, going_next}
use Rattle.faults.proofs.top.sweep.Goals as goal

pub loop-e-init : goal.loop-e-init
loop-e-init c =
    let a = c.args in
    going_start a.size a.count (words_of a.image.now) (table_in a.known) (holds_keys a.known) a.classes.low a.classes.high a.so a.units.now _ c.first_cursor-cursor.ensures

pub returns-in-Ok-None : goal.returns-in-Ok-None
returns-in-Ok-None c =
    going_done _ _ _ _ _ _ _ _ _ _ _ _
    (going-over _ _ _ _ _ _ _ _ _ _ _ _ _ _ c.loop-e.invariant _ refl _ c.pass_over-at.ensures)
    (rw c.in-Ok-None.field-0-is at c.in-Ok-None.ensures)

pub returns-in-Err : goal.returns-in-Err
returns-in-Err c =
    going-wrong _ _ _ _ _ _ _ _ _ _ _ _
    (going-over _ _ _ _ _ _ _ _ _ _ _ _ _ _ c.loop-e.invariant _ refl _ c.pass_over-at.ensures)
    c.in-Err.ensures

pub loop-e-smaller : goal.loop-e-smaller
loop-e-smaller c =
    let f = (rw c.in-Ok-Some.field-0-is at c.in-Ok-Some.ensures).falls in
    let g = c.pass_over-at.ensures.nearer c.args.count c.loop-e.cursor.chunk in
    omega arith

pub loop-e-preserved : goal.loop-e-preserved
loop-e-preserved c =
    going_next _ _ _ _ _ _ _ _ _ _ _ _
    (going-over _ _ _ _ _ _ _ _ _ _ _ _ _ _ c.loop-e.invariant _ refl _ c.pass_over-at.ensures)
    _ (rw c.in-Ok-Some.field-0-is at c.in-Ok-Some.ensures) _ c.visit-s.result c.visit-s.ensures
