-- `apply::remove::remove_puts` meets its contract.
-- Assumes nothing.
use Rattle.std.proofs.Common.{arith}
use Rattle.spec.specs.Words.{words_of}
use Rattle.words.specs.Image.{length-words_of}
use Rattle.theory_log.proofs.Walk.{room-entry}
use Rattle.apply.proofs.Walks.{puts-start, puts-more}
use Rattle.apply.proofs.remove.remove_puts.Goals as goal

pub loop-put-init : goal.loop-put-init
loop-put-init c = puts-start c.args.size _ _ _ _ _ _

pub loop-put-preserved : goal.loop-put-preserved
loop-put-preserved c =
    let a = c.args in
    let w = c.loop-put in
    let r = room-entry (words_of a.image.now) w.place a.end _ _ _ _ _ _ c.in-Some.ensures in
    let n = length-words_of a.image.now in
    puts-more a.size _ _ _ _ _ _ _ _ _ _ w.invariant _ _ _ _ c.in-Some.ensures (omega arith) _ _ c.in_ok-went.ensures

pub overflow_add-put : goal.overflow_add-put
overflow_add-put c =
    let a = c.args in
    let w = c.loop-put in
    let r = room-entry (words_of a.image.now) w.place a.end _ _ _ _ _ _ c.in-Some.ensures in
    let n = length-words_of a.image.now in
    omega arith

pub overflow_add-place : goal.overflow_add-place
overflow_add-place c =
    let a = c.args in
    let w = c.loop-put in
    let r = room-entry (words_of a.image.now) w.place a.end _ _ _ _ _ _ c.in-Some.ensures in
    let n = length-words_of a.image.now in
    omega arith

pub overflow_add-place-in-Some : goal.overflow_add-place-in-Some
overflow_add-place-in-Some c =
    let a = c.args in
    let w = c.loop-put in
    let r = room-entry (words_of a.image.now) w.place a.end _ _ _ _ _ _ c.in-Some.ensures in
    let n = length-words_of a.image.now in
    omega arith

pub loop-put-smaller : goal.loop-put-smaller
loop-put-smaller c =
    let a = c.args in
    let w = c.loop-put in
    let r = room-entry (words_of a.image.now) w.place a.end _ _ _ _ _ _ c.in-Some.ensures in
    let n = length-words_of a.image.now in
    omega arith
