-- `stepping::clean_next` meets its contract.
-- Assumes nothing.
use native.Mathlib.Omega.{arith}
use Rattle.stepping.proofs.CleanShows.{shows-over, shows-acts, shows-last}
use Rattle.stepping.proofs.clean_next.Goals as goal

pub returns-then-all-at : goal.returns-then-all-at
returns-then-all-at c =
    let a = c.args in
    rw c.ended_empty-ended.ensures
    (shows-over a.control a.setup a.source a.buffer.now a.image.now a.table.now (omega arith))

pub returns-then-next-all : goal.returns-then-next-all
returns-then-next-all c =
    let a = c.args in
    rw c.in_phase-moved.ensures
    (shows-acts a.control a.setup a.source a.buffer.now a.image.now a.table.now _ _
    c.clean_action-action.ensures c.perform.ensures (omega arith))

pub returns : goal.returns
returns c =
    let a = c.args in
    rw c.with_keys-moved.ensures
    (shows-last a.control a.setup a.source a.buffer.now a.image.now a.table.now _ _ c.clean_action-action.ensures
    c.perform.ensures _ _ _ (omega arith) c.remove_source-keys.ensures)
