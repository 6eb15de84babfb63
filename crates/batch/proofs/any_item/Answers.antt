-- `batch::any_item` meets its contract.
-- Assumes nothing.
use mathlib.Core.Path.{sym}
use native.Mathlib.Omega.{arith}
use Rattle.theory_log.proofs.Walk.{room-padding, room-entry}
use Rattle.batch.proofs.Any.{any-start, any-end, any-wrong, any-padding, any_entry}
use Rattle.batch.proofs.any_item.Goals as goal

pub loop-at-init : goal.loop-at-init
loop-at-init c =
    let a = c.args in
    any-start a.buffer.now a.words c.min-end.result c.min-end.ensures (omega arith)

pub returns-in-End : goal.returns-in-End
returns-in-End c =
    let a = c.args in
    let l = c.loop-at in
    let q = sym c.in-End.ensures in
    any-end a.buffer.now a.words l.at c.min-end.result l.any l.invariant q

pub returns-in-Wrong : goal.returns-in-Wrong
returns-in-Wrong c =
    let a = c.args in
    let l = c.loop-at in
    let q = sym c.in-Wrong.ensures in
    any-wrong a.buffer.now a.words l.at c.min-end.result l.any l.invariant q

pub overflow_add-at : goal.overflow_add-at
overflow_add-at c =
    let a = c.args in
    let l = c.loop-at in
    let q = sym c.in-Padding.ensures in
    let r = room-padding a.buffer.now l.at c.min-end.result q in
    omega arith

pub loop-at-smaller-in-Padding : goal.loop-at-smaller-in-Padding
loop-at-smaller-in-Padding c =
    let a = c.args in
    let l = c.loop-at in
    let q = sym c.in-Padding.ensures in
    let r = room-padding a.buffer.now l.at c.min-end.result q in
    omega arith

pub loop-at-preserved-in-Padding : goal.loop-at-preserved-in-Padding
loop-at-preserved-in-Padding c =
    let a = c.args in
    let l = c.loop-at in
    let q = sym c.in-Padding.ensures in
    any-padding a.buffer.now a.words l.at c.min-end.result l.any l.invariant q

pub overflow_add-at-in-Entry : goal.overflow_add-at-in-Entry
overflow_add-at-in-Entry c =
    let a = c.args in
    let l = c.loop-at in
    let q = sym c.in-Entry.ensures in
    let r = room-entry a.buffer.now l.at c.min-end.result _ _ _ _ _ _ q in
    omega arith

pub overflow_add-at-in-Entry-2 : goal.overflow_add-at-in-Entry-2
overflow_add-at-in-Entry-2 c =
    let a = c.args in
    let l = c.loop-at in
    let q = sym c.in-Entry.ensures in
    let r = room-entry a.buffer.now l.at c.min-end.result _ _ _ _ _ _ q in
    omega arith

pub loop-at-smaller : goal.loop-at-smaller
loop-at-smaller c =
    let a = c.args in
    let l = c.loop-at in
    let q = sym c.in-Entry.ensures in
    let r = room-entry a.buffer.now l.at c.min-end.result _ _ _ _ _ _ q in
    omega arith

pub loop-at-preserved : goal.loop-at-preserved
loop-at-preserved c =
    let a = c.args in
    let l = c.loop-at in
    let q = sym c.in-Entry.ensures in
    any_entry a.buffer.now a.words l.at c.min-end.result l.any l.invariant _ _ _ _ _ _ q
