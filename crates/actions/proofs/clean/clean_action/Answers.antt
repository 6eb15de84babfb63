-- Each action of a cleaning is the definitions'.
-- Assumes nothing.
use native.Mathlib.Omega.{arith}
use Rattle.actions.proofs.Acting.{shows-copy, shows-free}
use Rattle.actions.proofs.clean.clean_action.Goals as goal

pub returns-then-at-copies : goal.returns-then-at-copies
returns-then-at-copies c =
    let a = c.args in
    let m = c.copy_count-copies in
    shows-copy a.setup a.source a.buffer.now _ a.at m.result m.ensures (omega arith) (rw c.min-kept.ensures at c.append_action.ensures)

pub returns-else-at-copies : goal.returns-else-at-copies
returns-else-at-copies c =
    let a = c.args in
    let m = c.copy_count-copies in
    shows-free a.setup a.source a.buffer.now _ a.at m.result m.ensures (omega arith) c.free_action.ensures
