-- `apply::join::join_puts` meets its contract.
-- Assumes nothing.
use Rattle.std.proofs.Common.{refl, arith}
use Rattle.spec.specs.declared.Size.TheVariants as S
use Rattle.apply.proofs.Puts.{puts-start, puts-next}
use Rattle.apply.proofs.join.join_puts.Goals as goal

pub loop-put-init : goal.loop-put-init
loop-put-init c = puts-start S.Small _ _ _ _ _ _ c.told-buffer

pub overflow_add-weight : goal.overflow_add-weight
overflow_add-weight c = let f = c.in-Some.ensures.0 in omega arith

pub overflow_add-place : goal.overflow_add-place
overflow_add-place c = let f = c.in-Some.ensures.0 in omega arith

pub loop-put-smaller : goal.loop-put-smaller
loop-put-smaller c = let f = c.in-Some.ensures.0 in omega arith

pub loop-put-preserved : goal.loop-put-preserved
loop-put-preserved c =
    puts-next S.Small _ _ _ _ _ _ _ _ _ _ c.loop-put.invariant _ c.in-Some.ensures (omega arith) _
    c.extent_of-extent.ensures _ refl _ _ _ c.in-Some-joined.ensures
