-- `apply::join::join` meets its contract.
-- Assumes nothing.
use Rattle.std.proofs.Common.{[], refl, ◌∙◌, arith}
use Rattle.apply.proofs.Batch.{going_start, going-then, going_next, going-joins}
use Rattle.apply.proofs.join.join.Goals as goal

pub loop-item-init : goal.loop-item-init
loop-item-init c = going_start c.args.size _ _ _ _ _ _ _ c.told-buffer

pub shape_of-table-in-None : goal.shape_of-table-in-None
shape_of-table-in-None c = (c.join_common-r.ensures.goes []).sized ∙ c.loop-item.invariant.sized

pub returns-in-None : goal.returns-in-None
returns-in-None c =
    going-joins c.args.size _ _ _ _ _ _ _ _ _ _ _ _
    (going-then c.args.size _ _ _ _ _ _ _ _ _ _ _ _ _ _ _ c.loop-item.invariant (c.join_common-r.ensures.goes _))
    c.in-None.ensures refl c.min-end.ensures

pub overflow_add-place : goal.overflow_add-place
overflow_add-place c = let f = c.in-Some.ensures.0 in omega arith

pub overflow_add-at : goal.overflow_add-at
overflow_add-at c = let e = c.min-end.ensures in let f = c.in-Some.ensures.0 in omega arith

pub overflow_add-at-in-Some : goal.overflow_add-at-in-Some
overflow_add-at-in-Some c = let e = c.min-end.ensures in let f = c.in-Some.ensures.0 in omega arith

pub loop-item-smaller : goal.loop-item-smaller
loop-item-smaller c = let g = c.join_common-r.ensures.farther in let f = c.in-Some.ensures.0 in omega arith

pub loop-item-preserved : goal.loop-item-preserved
loop-item-preserved c =
    going_next c.args.size _ _ _ _ _ _ _ _ _ _ _
    (going-then c.args.size _ _ _ _ _ _ _ _ _ _ _ _ _ _ _ c.loop-item.invariant (c.join_common-r.ensures.goes _)) _
    c.in-Some.ensures (let e = c.min-end.ensures in omega arith) _ _ c.extent_of-extent.ensures
    c.single_entry-own.ensures _ c.weigh-weight.ensures _ _ _ c.join_one-keys.ensures _
    c.claim.ensures
