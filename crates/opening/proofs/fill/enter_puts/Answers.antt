-- `opening::fill::enter_puts` meets its contract.
-- Assumes nothing.
use native.Mathlib.Omega.{arith}
use Rattle.std.proofs.lemmas.Bool.{not-false}
use Rattle.spec.specs.Words.{words_of}
use Rattle.words.specs.Image.{length-words_of}
use Rattle.theory_log.proofs.Walk.{room-entry}
use Rattle.volatile.proofs.Shows.{own_alone}
use Rattle.opening.proofs.Runs.{one_chunk, run-start, run_more, run-again}
use Rattle.opening.proofs.fill.enter_puts.Goals as goal

pub returns-then-not-held : goal.returns-then-not-held
returns-then-not-held c = run-start _ _ _ _ _ _ _ _ _ c.buffer_length.ensures.1

pub loop-put-init : goal.loop-put-init
loop-put-init c = run-start _ _ _ _ _ _ _ _ _ c.buffer_length.ensures.1

pub overflow_add-behind : goal.overflow_add-behind
overflow_add-behind c =
    let a = c.args in
    let r = room-entry (words_of a.image.now) c.loop-put.run.at a.end _ _ _ _ _ _ c.in-Some.ensures in
    let n = length-words_of a.image.now in
    omega arith

pub overflow_add-behind-in-Some : goal.overflow_add-behind-in-Some
overflow_add-behind-in-Some c =
    let a = c.args in
    let r = room-entry (words_of a.image.now) c.loop-put.run.at a.end _ _ _ _ _ _ c.in-Some.ensures in
    let n = length-words_of a.image.now in
    omega arith

pub overflow_sub-passed : goal.overflow_sub-passed
overflow_sub-passed c = c.loop-put.invariant.farther

pub loop-put-smaller-then-old-ne0 : goal.loop-put-smaller-then-old-ne0
loop-put-smaller-then-old-ne0 c =
    let r = room-entry (words_of c.args.image.now) c.loop-put.run.at c.args.end _ _ _ _ _ _ c.in-Some.ensures in
    omega arith

pub loop-put-preserved-then-old-ne0 : goal.loop-put-preserved-then-old-ne0
loop-put-preserved-then-old-ne0 c =
    let a = c.args in
    run-again a.size _ _ _ _ _ _ _ _ (one_chunk a.size a.at a.end _ c.is_wide.ensures c.if-is_wide.false) _ _ _ _ _ _ c.loop-put.invariant _ _ _ _
    c.in-Some.ensures _ _ c.slot_of-slot.ensures c.word_at-old.ensures _
    (own_alone a.size 0 c.in-Some.put.field _ _ _ _ c.extent_of-extent.ensures c.single_entry-own.ensures)
    (not-false _ c.if-not-held.false) c.if-old-ne0.true _ c.add.ensures _ c.weigh-weight.ensures _ _ _
    c.enter_known.ensures

pub loop-put-smaller : goal.loop-put-smaller
loop-put-smaller c =
    let r = room-entry (words_of c.args.image.now) c.loop-put.run.at c.args.end _ _ _ _ _ _ c.in-Some.ensures in
    omega arith

pub loop-put-preserved : goal.loop-put-preserved
loop-put-preserved c =
    let a = c.args in
    run_more a.size _ _ _ _ _ _ _ _ (one_chunk a.size a.at a.end _ c.is_wide.ensures c.if-is_wide.false) _ _ _ _ _ _ c.loop-put.invariant _ _ _ _
    c.in-Some.ensures _ _ c.slot_of-slot.ensures c.word_at-old.ensures _
    (own_alone a.size 0 c.in-Some.put.field _ _ _ _ c.extent_of-extent.ensures c.single_entry-own.ensures)
    (not-false _ c.if-not-held.false) c.if-old-ne0.false (rw (← c.capacity-room.ensures) c.if-room-run.false) _
    c.set_slot.ensures
