-- `slot_of` meets its contract.
-- Assumes nothing.
use Rattle.std.proofs.Common.{◌≡◌, ◌+◌, ◌-◌, ◌/◌, length, arith}
use Rattle.index.proofs.Slots.{stop-upto}
use Rattle.index.proofs.Probing.{probing-start, probing-on}
use Rattle.index.proofs.slot_of.Goals as goal

pub returns-then-n-eq0 : goal.returns-then-n-eq0
returns-then-n-eq0 c =
    let a = c.args in
    omega (arith, stop-upto a.table.now a.key)

pub loop-passed-init : goal.loop-passed-init
loop-passed-init c =
    let a = c.args in
    let n = length a.table.now / 2 in
    let all : n - 0 ≡ n = omega arith in
    rw all (probing-start a.table.now a.key c.hash-s.result (omega arith) c.hash-s.ensures)

pub loop-passed-preserved : goal.loop-passed-preserved
loop-passed-preserved c =
    let a = c.args in
    let w = c.loop-passed in
    let n = length a.table.now / 2 in
    let less : n - (w._passed + 1) ≡ n - w._passed - 1 = omega arith in
    rw (c.next_slot-s.ensures, less) (probing-on a.table.now a.key n w.s _ w.invariant (omega arith) c.if-table-s-eq0.false c.if-table-s.false)
