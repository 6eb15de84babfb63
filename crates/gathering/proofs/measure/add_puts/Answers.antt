-- `gathering::measure::add_puts` meets its contract.
-- Assumes nothing.
use Rattle.std.proofs.Common.{arith}
use Rattle.spec.specs.Words.{words_of}
use Rattle.words.specs.Image.{length-words_of}
use Rattle.theory_log.proofs.Walk.{room-entry}
use Rattle.gathering.proofs.Measures.{run-start, run_more}
use Rattle.gathering.proofs.measure.add_puts.Goals as goal

pub loop-put-init : goal.loop-put-init
loop-put-init c = run-start _ _ _ _ _ _

pub overflow_add-place : goal.overflow_add-place
overflow_add-place c =
    let a = c.args in
    let r = room-entry (words_of a.image.now) c.loop-put.place a.until _ _ _ _ _ _ c.in-Some.ensures in
    let n = length-words_of a.image.now in
    omega arith

pub overflow_add-place-in-Some : goal.overflow_add-place-in-Some
overflow_add-place-in-Some c =
    let a = c.args in
    let r = room-entry (words_of a.image.now) c.loop-put.place a.until _ _ _ _ _ _ c.in-Some.ensures in
    let n = length-words_of a.image.now in
    omega arith

pub loop-put-smaller : goal.loop-put-smaller
loop-put-smaller c =
    let a = c.args in
    let r = room-entry (words_of a.image.now) c.loop-put.place a.until _ _ _ _ _ _ c.in-Some.ensures in
    omega arith

pub loop-put-preserved : goal.loop-put-preserved
loop-put-preserved c =
    run_more c.args.size _ _ _ _ _ _ _ c.loop-put.invariant _ c.in-Some.ensures _ _ c.is_kept-kept.ensures _ c.add_kept-tally.ensures
