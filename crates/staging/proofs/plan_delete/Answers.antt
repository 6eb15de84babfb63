-- `staging::plan_delete` meets its contract.
-- Assumes nothing.
use mathlib.Core.Path.{sym, ◌∙◌}
use native.Mathlib.Omega.{arith}
use Rattle.std.proofs.lemmas.Result.{err_from_is_err_and}
use Rattle.spec.specs.Machine.{Delete}
use Rattle.staging.proofs.Shows.{at-gate}
use Rattle.staging.proofs.Admits.{named-admitted, named-room}
use Rattle.staging.proofs.Staging.{delete-absent, delete-refused, delete-item}
use Rattle.staging.proofs.Known.{newest-sized}
use Rattle.staging.proofs.plan_delete.Goals as goal

pub overflow_add-version : goal.overflow_add-version
overflow_add-version c = let q = named-admitted _ _ _ _ _ _ _ (sym c.admit.ensures ∙ c.in_ok-fresh.was) in omega arith

pub returns-in_err-gate : goal.returns-in_err-gate
returns-in_err-gate c =
    let a = c.args in
    let p = err_from_is_err_and c.from_residual.result c.from_residual.ensures.1 in
    rw (p.1, p.2) (at-gate a.control a.setup a.buffer.now a.image.now a.table.now _ c.gate.ensures (Delete a.named a.key) tt _ c.in_err-gate.was)

pub returns-in_err-fresh : goal.returns-in_err-fresh
returns-in_err-fresh c =
    let by = c.size_by-size in
    let a = c.args in
    let p = err_from_is_err_and c.from_residual-in_err-fresh.result c.from_residual-in_err-fresh.ensures.1 in
    rw (p.1, p.2)
    (delete-refused a.control a.setup a.buffer.now a.image.now a.table.now _ c.gate.ensures c.in_ok-gate.was a.named a.key _ (newest-sized by.result a.setup a.buffer.now a.control.words a.table.now a.key _ by.ensures c.known_of-known.ensures) (sym c.is_present.ensures ∙ c.if-not-is_present.false) _
    (rw c.version-last.ensures at (named-room _ _ _ _ _ _ _ _ c.capacity-room.ensures c.admit.ensures)) _ c.in_err-fresh.was)

pub returns : goal.returns
returns c =
    let by = c.size_by-size in
    let a = c.args in
    rw c.version-last.ensures
    (delete-item a.control a.setup a.buffer.now a.image.now a.table.now _ c.gate.ensures c.in_ok-gate.was a.named a.key _ (newest-sized by.result a.setup a.buffer.now a.control.words a.table.now a.key _ by.ensures c.known_of-known.ensures) (sym c.is_present.ensures ∙ c.if-not-is_present.false) _
    (rw c.version-last.ensures at (named-room _ _ _ _ _ _ _ _ c.capacity-room.ensures c.admit.ensures)) _ c.in_ok-fresh.was)

pub returns-then-not-is_present : goal.returns-then-not-is_present
returns-then-not-is_present c =
    let by = c.size_by-size in
    let a = c.args in
    delete-absent a.control a.setup a.buffer.now a.image.now a.table.now _ c.gate.ensures c.in_ok-gate.was a.named a.key _ (newest-sized by.result a.setup a.buffer.now a.control.words a.table.now a.key _ by.ensures c.known_of-known.ensures) (sym c.is_present.ensures ∙ c.if-not-is_present.true)
