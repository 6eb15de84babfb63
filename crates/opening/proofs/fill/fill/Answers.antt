-- `opening::fill::fill` meets its contract.
-- Assumes nothing.
use mathlib.Core.Path.{sym, ◌∙◌, ap}
use native.Mathlib.Omega.{arith}
use lib.ListN.{length}
use Rattle.places.specs.Sizes.{power_of}
use Rattle.spec.specs.Words.{words_of}
use Rattle.words.specs.Image.{length-words_of}
use Rattle.theory_log.proofs.Walk.{room-padding, room-entry}
use Rattle.logs.proofs.Walk.{next-none, next-wrong, next-padding, next-found, left-padding}
use Rattle.volatile.proofs.Laws.{alone-self, alone-then}
use Rattle.volatile.proofs.Shows.{own_alone}
use Rattle.opening.proofs.Pass.{pass-start, pass_on, pass-entered, pass-done, pass-wrong}
use Rattle.opening.proofs.Runs.{turn-passes, turn-alone, turn-nearer}
use Rattle.consistency.proofs.Onwards.{onward-same, onward-nearer}
use Rattle.opening.proofs.fill.fill.Goals as goal

pub loop-cursor-init : goal.loop-cursor-init
loop-cursor-init c = (
  rw c.first_cursor-cursor.ensures (pass-start c.args.size _ _ (length c.args.table.now) _ c.clear.ensures _ _ c.clear-2.ensures),
  alone-self _ (c.clear-2.ensures.kept.long ∙ c.clear-2.ensures.kept.size),
)

pub overflow_sub-passed : goal.overflow_sub-passed
overflow_sub-passed c = c.enter_puts-r.ensures.farther

pub returns-then-saturating_sub-cursor : goal.returns-then-saturating_sub-cursor
returns-then-saturating_sub-cursor c = (
  _,
  _,
  pass-done _ _ _ _ _ _ _ _ _ _ _
      (turn-passes _ _ _ _ _ _ _ _ _ _ _ _ _ _ c.loop-cursor.invariant.0 c.skip_padding-at.ensures _ _ _ _ _ _ c.enter_puts-r.ensures _ c.add.ensures)
      _ _ (ap length c.clear.ensures)
      (alone-then _ _ _ c.clear-2.ensures.kept (turn-alone _ _ _ _ _ _ _ _ _ _ _ _ _ _ c.loop-cursor.invariant.0 c.skip_padding-at.ensures _ _ _ _ _ _ c.enter_puts-r.ensures _ c.add.ensures _ c.loop-cursor.invariant.1))
      (next-none _ _ _ _ _ _ (sym c.in-End.ensures) (omega arith)),
  c.then_some.ensures,
)

pub loop-cursor-smaller-in-End : goal.loop-cursor-smaller-in-End
loop-cursor-smaller-in-End c =
    let a = c.args in
    let f = onward-nearer (power_of a.size) a.count (words_of a.image.now) c.loop-cursor.cursor.chunk c.enter_puts-r.result.at c.loop-cursor.cursor.end
    (omega arith) c.onward-cursor.result c.onward-cursor.ensures in
    let g = turn-nearer _ _ _ _ _ _ _ _ _ _ _ _ _ _ c.loop-cursor.invariant.0 c.skip_padding-at.ensures _ _ _ _ _ _ c.enter_puts-r.ensures _ c.add.ensures c.args.count c.loop-cursor.cursor.chunk in
    omega arith

pub loop-cursor-preserved-in-End : goal.loop-cursor-preserved-in-End
loop-cursor-preserved-in-End c = (
  pass_on _ _ _ _ _ _ _ _ _ _ _ _ _ _
      (turn-passes _ _ _ _ _ _ _ _ _ _ _ _ _ _ c.loop-cursor.invariant.0 c.skip_padding-at.ensures _ _ _ _ _ _ c.enter_puts-r.ensures _ c.add.ensures)
      (onward-same _ _ _ _ _ _ (omega arith) _ c.onward-cursor.ensures (sym c.in-End.ensures)),
  turn-alone _ _ _ _ _ _ _ _ _ _ _ _ _ _ c.loop-cursor.invariant.0 c.skip_padding-at.ensures _ _ _ _ _ _ c.enter_puts-r.ensures _ c.add.ensures _ c.loop-cursor.invariant.1,
)

pub returns-in-Wrong : goal.returns-in-Wrong
returns-in-Wrong c =
    pass-wrong _ _ _ _ _ _ _ _ _ _ _
    (turn-passes _ _ _ _ _ _ _ _ _ _ _ _ _ _ c.loop-cursor.invariant.0 c.skip_padding-at.ensures _ _ _ _ _ _ c.enter_puts-r.ensures _ c.add.ensures)
    _ _ (ap length c.clear.ensures)
    (alone-then _ _ _ c.clear-2.ensures.kept (turn-alone _ _ _ _ _ _ _ _ _ _ _ _ _ _ c.loop-cursor.invariant.0 c.skip_padding-at.ensures _ _ _ _ _ _ c.enter_puts-r.ensures _ c.add.ensures _ c.loop-cursor.invariant.1))
    (next-wrong _ _ _ _ _ _ (sym c.in-Wrong.ensures))

pub overflow_add-cursor-in-Padding : goal.overflow_add-cursor-in-Padding
overflow_add-cursor-in-Padding c =
    let a = c.args in
    let r = room-padding (words_of a.image.now) c.enter_puts-r.result.at c.loop-cursor.cursor.end (sym c.in-Padding.ensures) in
    let n = length-words_of a.image.now in
    let short = c.well_formed.0.0 in
    omega arith

pub loop-cursor-smaller-in-Padding : goal.loop-cursor-smaller-in-Padding
loop-cursor-smaller-in-Padding c =
    let a = c.args in
    let f = left-padding (power_of a.size) a.count (words_of a.image.now) c.loop-cursor.cursor.chunk c.enter_puts-r.result.at
    c.loop-cursor.cursor.end (sym c.in-Padding.ensures) in
    let g = turn-nearer _ _ _ _ _ _ _ _ _ _ _ _ _ _ c.loop-cursor.invariant.0 c.skip_padding-at.ensures _ _ _ _ _ _ c.enter_puts-r.ensures _ c.add.ensures c.args.count c.loop-cursor.cursor.chunk in
    omega arith

pub loop-cursor-preserved-in-Padding : goal.loop-cursor-preserved-in-Padding
loop-cursor-preserved-in-Padding c = (
  pass_on _ _ _ _ _ _ _ _ _ _ _ _ _ _
      (turn-passes _ _ _ _ _ _ _ _ _ _ _ _ _ _ c.loop-cursor.invariant.0 c.skip_padding-at.ensures _ _ _ _ _ _ c.enter_puts-r.ensures _ c.add.ensures)
      (next-padding _ _ _ _ _ _ (sym c.in-Padding.ensures)),
  turn-alone _ _ _ _ _ _ _ _ _ _ _ _ _ _ c.loop-cursor.invariant.0 c.skip_padding-at.ensures _ _ _ _ _ _ c.enter_puts-r.ensures _ c.add.ensures _ c.loop-cursor.invariant.1,
)

pub overflow_add-cursor-in-Entry : goal.overflow_add-cursor-in-Entry
overflow_add-cursor-in-Entry c =
    let a = c.args in
    let r = room-entry (words_of a.image.now) c.enter_puts-r.result.at c.loop-cursor.cursor.end _ _ _ _ _ c.in-Entry.words (sym c.in-Entry.ensures) in
    let n = length-words_of a.image.now in
    let short = c.well_formed.0.0 in
    omega arith

pub overflow_add-cursor-in-Entry-2 : goal.overflow_add-cursor-in-Entry-2
overflow_add-cursor-in-Entry-2 c =
    let a = c.args in
    let r = room-entry (words_of a.image.now) c.enter_puts-r.result.at c.loop-cursor.cursor.end _ _ _ _ _ c.in-Entry.words (sym c.in-Entry.ensures) in
    let n = length-words_of a.image.now in
    let short = c.well_formed.0.0 in
    omega arith

pub loop-cursor-smaller : goal.loop-cursor-smaller
loop-cursor-smaller c =
    let a = c.args in
    let f = (next-found (power_of a.size) a.count (words_of a.image.now) c.loop-cursor.cursor.chunk c.enter_puts-r.result.at c.loop-cursor.cursor.end _ _ _ _ _ _
    (sym c.in-Entry.ensures)).falls in
    let g = turn-nearer _ _ _ _ _ _ _ _ _ _ _ _ _ _ c.loop-cursor.invariant.0 c.skip_padding-at.ensures _ _ _ _ _ _ c.enter_puts-r.ensures _ c.add.ensures c.args.count c.loop-cursor.cursor.chunk in
    omega arith

pub loop-cursor-preserved : goal.loop-cursor-preserved
loop-cursor-preserved c = (
  pass-entered _ _ _ _ _ _ _ _ _ _ _
      (turn-passes _ _ _ _ _ _ _ _ _ _ _ _ _ _ c.loop-cursor.invariant.0 c.skip_padding-at.ensures _ _ _ _ _ _ c.enter_puts-r.ensures _ c.add.ensures)
      _ (next-found _ _ _ _ _ _ _ _ _ _ _ _ (sym c.in-Entry.ensures)) _ c.is_direct-direct.ensures _
      (own_alone _ c.in-Entry.placement c.in-Entry.field _ _ _ _ c.extent_of-extent.ensures
      c.single_entry-own.ensures) _ c.weigh-weight.ensures _ _ _ _ _ c.enter-held.ensures,
  alone-then _ _ _ (turn-alone _ _ _ _ _ _ _ _ _ _ _ _ _ _ c.loop-cursor.invariant.0 c.skip_padding-at.ensures _ _ _ _ _ _ c.enter_puts-r.ensures _ c.add.ensures _ c.loop-cursor.invariant.1) c.enter-held.ensures.kept,
)
