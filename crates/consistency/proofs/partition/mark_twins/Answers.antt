-- `consistency::partition::mark_twins` meets its contract.
-- Assumes nothing.
use mathlib.Core.Path.{refl}
use native.Mathlib.Omega.{arith}
use Rattle.consistency.proofs.Twins.{seen_none, seen_next, seen-quiet, seen_all}
use Rattle.consistency.proofs.partition.mark_twins.Goals as goal

pub loop-s-init : goal.loop-s-init
loop-s-init c = (omega arith, refl, refl, seen_none _ _)

pub overflow_add-s : goal.overflow_add-s
overflow_add-s c =
    let f = c.is_quiet.ensures.fits c.if-is_quiet.true in
    omega arith

pub loop-s-smaller-then-is_quiet : goal.loop-s-smaller-then-is_quiet
loop-s-smaller-then-is_quiet c =
    let f = c.is_quiet.ensures.fits c.if-is_quiet.true in
    omega arith

pub loop-s-preserved-then-is_quiet : goal.loop-s-preserved-then-is_quiet
loop-s-preserved-then-is_quiet c =
    let f = c.is_quiet.ensures.fits c.if-is_quiet.true in
    (omega arith, refl, c.loop-s.invariant.2, seen-quiet _ _ _ c.loop-s.invariant.3 _ c.is_quiet.ensures c.if-is_quiet.true)

pub loop-s-preserved : goal.loop-s-preserved
loop-s-preserved c = (
  omega arith,
  refl,
  omega arith,
  seen_next _ _ _ _ _ _ c.loop-s.invariant.3 refl refl c.mark_slot.ensures,
)

pub shape_of-marks : goal.shape_of-marks
shape_of-marks c = c.loop-s.invariant.2

pub returns : goal.returns
returns c = seen_all _ _ _ c.loop-s.invariant.3 (omega arith)
