-- `consistency::sweep` meets its contract.
-- Assumes nothing.
use native.Mathlib.Omega.{arith}
use Rattle.std.proofs.lemmas.Bool.{not-true, not-false}
use Rattle.spec.specs.Words.{words_of}
use Rattle.places.specs.Sizes.{power_of}
use Rattle.theory_log.proofs.Walk.{step_end}
use Rattle.consistency.specs.Classes.{table_in, holds_keys}
use Rattle.consistency.proofs.Onwards.{onward-same, onward-nearer}
use Rattle.consistency.proofs.Sweeps.{going_start, going-over, going_on, going_done, going-wrong, going_next, going-stop}
use Rattle.consistency.proofs.sweep.Goals as goal

pub loop-cursor-init : goal.loop-cursor-init
loop-cursor-init c =
    let a = c.args in
    going_start a.size a.count (words_of a.image.now) (table_in a.known) (holds_keys a.known) a.asked.single a.asked.marks.now a.asked.classes.low a.asked.classes.high a.so a.buffer.now _ c.first_cursor-cursor.ensures

-- at the end of a chunk behind which there is one more
pub loop-cursor-smaller-then-cursor-saturating_sub : goal.loop-cursor-smaller-then-cursor-saturating_sub
loop-cursor-smaller-then-cursor-saturating_sub c =
    let a = c.args in
    let w = c.loop-cursor.cursor in
    let f = onward-nearer (power_of a.size) a.count (words_of a.image.now) w.chunk c.pass_over-at.result w.end
    (omega arith) c.onward-cursor.result c.onward-cursor.ensures in
    let g = c.pass_over-at.ensures.nearer a.count w.chunk in
    omega arith

pub loop-cursor-preserved-then-cursor-saturating_sub : goal.loop-cursor-preserved-then-cursor-saturating_sub
loop-cursor-preserved-then-cursor-saturating_sub c =
    let w = c.loop-cursor.cursor in
    going_on _ _ _ _ _ _ _ _ _ _ _ _ _ _ _
    (going-over _ _ _ _ _ _ _ _ _ _ _ _ _ _ _ _ c.loop-cursor.invariant _ c.pass_over-at.ensures)
    (onward-same _ _ _ _ _ _ (omega arith) _ c.onward-cursor.ensures (step_end c.pass_over-at.result w.end _ (omega arith)))

pub returns-in-Ok-None : goal.returns-in-Ok-None
returns-in-Ok-None c =
    going_done _ _ _ _ _ _ _ _ _ _ _ _ _ _
    (going-over _ _ _ _ _ _ _ _ _ _ _ _ _ _ _ _ c.loop-cursor.invariant _ c.pass_over-at.ensures)
    (rw c.in-Ok-None.field-0-is at c.in-Ok-None.ensures)

pub returns-in-Err : goal.returns-in-Err
returns-in-Err c =
    going-wrong _ _ _ _ _ _ _ _ _ _ _ _ _ _
    (going-over _ _ _ _ _ _ _ _ _ _ _ _ _ _ _ _ c.loop-cursor.invariant _ c.pass_over-at.ensures)
    c.in-Err.ensures

pub loop-cursor-smaller : goal.loop-cursor-smaller
loop-cursor-smaller c =
    let f = (rw c.in-Ok-Some.field-0-is at c.in-Ok-Some.ensures).falls in
    let g = c.pass_over-at.ensures.nearer c.args.count c.loop-cursor.cursor.chunk in
    omega arith

pub loop-cursor-preserved : goal.loop-cursor-preserved
loop-cursor-preserved c =
    going_next _ _ _ _ _ _ _ _ _ _ _ _ _ _
    (going-over _ _ _ _ _ _ _ _ _ _ _ _ _ _ _ _ c.loop-cursor.invariant _ c.pass_over-at.ensures)
    _ (rw c.in-Ok-Some.field-0-is at c.in-Ok-Some.ensures) _
    c.visit-s.result c.visit-s.ensures (not-false _ c.if-not-s.false)

pub returns-then-not-s : goal.returns-then-not-s
returns-then-not-s c =
    going-stop _ _ _ _ _ _ _ _ _ _ _ _ _ _
    (going-over _ _ _ _ _ _ _ _ _ _ _ _ _ _ _ _ c.loop-cursor.invariant _ c.pass_over-at.ensures)
    _ (rw c.in-Ok-Some.field-0-is at c.in-Ok-Some.ensures) _
    c.visit-s.result c.visit-s.ensures (not-true _ c.if-not-s.true)
