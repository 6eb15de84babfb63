-- `gathering::take_puts` meets its contract.
-- Assumes nothing.
use Rattle.std.proofs.Common.{sym, refl, ◌∙◌, arith}
use Rattle.spec.specs.Words.{words_of}
use Rattle.words.specs.Image.{length-words_of}
use Rattle.theory_log.proofs.Walk.{room-entry}
use Rattle.gathering.proofs.Passes.{puts-start, puts-more}
use Rattle.gathering.proofs.take_puts.Goals as goal

pub loop-put-init : goal.loop-put-init
loop-put-init c = puts-start _ _ _ _ _ _ _ _

pub shape_of-kept : goal.shape_of-kept
shape_of-kept c = c.loop-put.invariant.long c.requires.1 ∙ sym c.requires.1

pub overflow_add-at : goal.overflow_add-at
overflow_add-at c =
    let a = c.args in
    let r = room-entry (words_of a.copy.now) c.loop-put.place a.until _ _ _ _ _ _ c.in-Some.ensures in
    let l = length-words_of a.copy.now in
    let p = c.requires in
    omega arith

pub take-tally-requires : goal.take-tally-requires
take-tally-requires c = c.loop-put.invariant.long c.requires.1

pub overflow_add-place : goal.overflow_add-place
overflow_add-place c =
    let a = c.args in
    let r = room-entry (words_of a.copy.now) c.loop-put.place a.until _ _ _ _ _ _ c.in-Some.ensures in
    let l = length-words_of a.copy.now in
    let b = c.well_formed in
    omega arith

pub overflow_add-place-in-Some : goal.overflow_add-place-in-Some
overflow_add-place-in-Some c =
    let a = c.args in
    let r = room-entry (words_of a.copy.now) c.loop-put.place a.until _ _ _ _ _ _ c.in-Some.ensures in
    let l = length-words_of a.copy.now in
    let b = c.well_formed in
    omega arith

pub loop-put-smaller : goal.loop-put-smaller
loop-put-smaller c =
    let a = c.args in
    let r = room-entry (words_of a.copy.now) c.loop-put.place a.until _ _ _ _ _ _ c.in-Some.ensures in
    omega arith

pub loop-put-preserved : goal.loop-put-preserved
loop-put-preserved c =
    puts-more c.args.size _ _ _ _ _ _ _ _ _ _ c.loop-put.invariant _ c.in-Some.ensures _ _ refl _ c.is_kept-is.ensures _ _ c.take-tally.ensures
