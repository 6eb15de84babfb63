-- `volatile::with_entry` meets its contract.
-- Assumes nothing.
use Rattle.volatile.proofs.Info.{noted-new}
use Rattle.volatile.proofs.Shows.{shows-higher, shows-twin, shows-lower}
use Rattle.volatile.proofs.with_entry.Goals as goal
use Rattle.volatile.proofs.with_entry.Goals.{then-info-new, else-info-new+then-info-new-2, else-info-new+else-info-new-2}

pub returns-then-word-eq0 : goal.returns-then-word-eq0
returns-then-word-eq0 c = noted-new c.args.size _ _ c.if-word-eq0.true

pub returns : goal.returns
returns c =
    let size = c.args.size in
    let i = c.unpack-info in
    let j = c.unpack-new in
    elim c.if-info-new.branch [
      | then-info-new w ↦ shows-higher size _ _ _ i.result j.result i.ensures j.ensures c.if-word-eq0.false w.if-info-new.true (rw w.raised-is at c.pack.ensures)
      | else-info-new+then-info-new-2 w ↦ shows-twin size _ _ _ i.result j.result i.ensures j.ensures c.if-word-eq0.false w.if-info-new.false w.if-info-new-2.true (rw w.raised-is at c.pack.ensures)
      | else-info-new+else-info-new-2 w ↦ shows-lower size _ _ _ i.result j.result i.ensures j.ensures c.if-word-eq0.false w.if-info-new.false w.if-info-new-2.false (rw w.raised-is at c.pack.ensures)
    ]
