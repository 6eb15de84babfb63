-- `look` meets its contract.
-- Assumes nothing.
use mathlib.Core.Path.{sym}
use native.Mathlib.Omega.{arith}
use Rattle.index.proofs.Slots.{get-out}
use Rattle.index.proofs.Probing.{first-in, first_key, first-empty, first-passed, behind-empty, behind-key, again-empty, again-key, again-passed, again-done}
use Rattle.index.proofs.get.Goals as goal

pub returns-then-n-eq0 : goal.returns-then-n-eq0
returns-then-n-eq0 c =
    let a = c.args in
    let t = a.table.now in
    sym (get-out t a.key (omega arith))

pub offset_bounds-table-at : goal.offset_bounds-table-at
offset_bounds-table-at c =
    let a = c.args in
    let t = a.table.now in
    omega (arith, first-in t a.key c.start_of-at.result (omega arith) c.start_of-at.ensures)

pub bounds-table-at : goal.bounds-table-at
bounds-table-at c =
    let a = c.args in
    let t = a.table.now in
    omega (arith, first-in t a.key c.start_of-at.result (omega arith) c.start_of-at.ensures)

pub offset_bounds-table-at-then-table-at : goal.offset_bounds-table-at-then-table-at
offset_bounds-table-at-then-table-at c =
    let a = c.args in
    let t = a.table.now in
    omega (
      arith,
      first-in t a.key c.start_of-at.result (omega arith) c.start_of-at.ensures,
    )

pub bounds-table-at-then-table-at : goal.bounds-table-at-then-table-at
bounds-table-at-then-table-at c =
    let a = c.args in
    let t = a.table.now in
    omega (
      arith,
      first-in t a.key c.start_of-at.result (omega arith)
          c.start_of-at.ensures,
    )

pub returns-then-table-at : goal.returns-then-table-at
returns-then-table-at c =
    let a = c.args in
    let t = a.table.now in
    first_key t a.key c.start_of-at.result (omega arith)
    c.start_of-at.ensures c.if-table-at.true

pub offset_bounds-table-at-2 : goal.offset_bounds-table-at-2
offset_bounds-table-at-2 c =
    let a = c.args in
    let t = a.table.now in
    omega (
      arith,
      first-in t a.key c.start_of-at.result (omega arith) c.start_of-at.ensures,
    )

pub bounds-table-at-2 : goal.bounds-table-at-2
bounds-table-at-2 c =
    let a = c.args in
    let t = a.table.now in
    omega (
      arith,
      first-in t a.key c.start_of-at.result (omega arith)
          c.start_of-at.ensures,
    )

pub returns-then-table-at-eq0 : goal.returns-then-table-at-eq0
returns-then-table-at-eq0 c =
    let a = c.args in
    let t = a.table.now in
    first-empty t a.key c.start_of-at.result (omega arith) c.start_of-at.ensures
    c.if-table-at-eq0.true

pub loop-slot-init : goal.loop-slot-init
loop-slot-init c =
    let a = c.args in
    let t = a.table.now in
    first-passed t a.key c.start_of-at.result (omega arith) c.start_of-at.ensures
    c.if-table-at-eq0.false c.if-table-at.false

pub returns-then-info-eq0 : goal.returns-then-info-eq0
returns-then-info-eq0 c =
    let a = c.args in
    let t = a.table.now in
    let w = c.loop-slot in
    behind-empty t a.key w.slot w.invariant (omega arith) c.if-info-eq0.true

pub returns-then-table-slot : goal.returns-then-table-slot
returns-then-table-slot c =
    let a = c.args in
    let t = a.table.now in
    let w = c.loop-slot in
    behind-key t a.key w.slot w.invariant (omega arith) c.if-table-slot.true

pub returns-then-info-eq0-2 : goal.returns-then-info-eq0-2
returns-then-info-eq0-2 c =
    let a = c.args in
    let t = a.table.now in
    let w = c.loop-low in
    again-empty t a.key w.low w.invariant c.if-info-eq0-2.true

pub returns-then-table-low : goal.returns-then-table-low
returns-then-table-low c =
    let a = c.args in
    let t = a.table.now in
    let w = c.loop-low in
    again-key t a.key w.low w.invariant (omega arith) c.if-table-low.true

pub loop-low-preserved : goal.loop-low-preserved
loop-low-preserved c =
    let a = c.args in
    let t = a.table.now in
    let w = c.loop-low in
    again-passed t a.key w.low w.invariant (omega arith) c.if-info-eq0-2.false c.if-table-low.false

pub returns : goal.returns
returns c =
    let a = c.args in
    let t = a.table.now in
    let w = c.loop-low in
    again-done t a.key w.low w.invariant (omega arith)
