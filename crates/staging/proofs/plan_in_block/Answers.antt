-- `staging::plan_in_block` meets its contract.
-- Assumes nothing.
use mathlib.Core.Path.{sym, ◌∙◌}
use native.Mathlib.Omega.{arith}
use Rattle.std.proofs.lemmas.Result.{err_from_is_err_and}
use Rattle.spec.specs.Machine.{Put}
use Rattle.staging.proofs.Shows.{at-gate}
use Rattle.staging.proofs.Admits.{named-admitted, named-room}
use Rattle.staging.proofs.Known.{version-sized}
use Rattle.staging.proofs.Blocks.{limit_is, long-refused, large-refused, large-nowhere, large-item}
use Rattle.staging.proofs.plan_in_block.Goals as goal

pub returns-then-largest_value-bytes : goal.returns-then-largest_value-bytes
returns-then-largest_value-bytes c =
    let by = c.size_by-size in
    let a = c.args in
    let most = limit_is by.result a.setup _ by.ensures c.largest_value.ensures.0 in
    long-refused a.control a.setup a.buffer.now a.image.now a.table.now _ c.gate.ensures c.in_ok-gate.was a.named a.key a.bytes (omega arith)

pub overflow_add-version : goal.overflow_add-version
overflow_add-version c = let q = named-admitted _ _ _ _ _ _ _ (sym c.admit.ensures ∙ c.in_ok-fresh.was) in omega arith

pub returns-in_err-gate : goal.returns-in_err-gate
returns-in_err-gate c =
    let a = c.args in
    let p = err_from_is_err_and c.from_residual.result c.from_residual.ensures.1 in
    rw (p.1, p.2) (λ v q. at-gate a.control a.setup a.buffer.now a.image.now a.table.now _ c.gate.ensures (Put a.named a.key v) tt _ c.in_err-gate.was)

pub returns-in_err-fresh : goal.returns-in_err-fresh
returns-in_err-fresh c =
    let by = c.size_by-size in
    let a = c.args in
    let most = limit_is by.result a.setup _ by.ensures c.largest_value.ensures.0 in
    let p = err_from_is_err_and c.from_residual-in_err-fresh.result c.from_residual-in_err-fresh.ensures.1 in
    rw (p.1, p.2)
    (large-refused a.control a.setup a.buffer.now a.image.now a.table.now _ c.gate.ensures c.in_ok-gate.was a.named a.key a.bytes _ (version-sized by.result a.setup a.buffer.now a.control.words a.table.now a.key _ by.ensures c.version_of-last.ensures) c.requires (omega arith) _
    (named-room _ _ _ _ _ _ _ _ c.capacity-room.ensures c.admit.ensures) _ c.in_err-fresh.was)

pub returns-in-Some : goal.returns-in-Some
returns-in-Some c =
    let by = c.size_by-size in
    let a = c.args in
    let most = limit_is by.result a.setup _ by.ensures c.largest_value.ensures.0 in
    large-item a.control a.setup a.buffer.now a.image.now a.table.now _ c.gate.ensures c.in_ok-gate.was a.named a.key a.bytes _ (version-sized by.result a.setup a.buffer.now a.control.words a.table.now a.key _ by.ensures c.version_of-last.ensures) c.requires (omega arith) _
    (named-room _ _ _ _ _ _ _ _ c.capacity-room.ensures c.admit.ensures) _ c.in_ok-fresh.was _ c.in-Some.ensures

pub returns-in-None : goal.returns-in-None
returns-in-None c =
    let by = c.size_by-size in
    let a = c.args in
    let most = limit_is by.result a.setup _ by.ensures c.largest_value.ensures.0 in
    large-nowhere a.control a.setup a.buffer.now a.image.now a.table.now _ c.gate.ensures c.in_ok-gate.was a.named a.key a.bytes _ (version-sized by.result a.setup a.buffer.now a.control.words a.table.now a.key _ by.ensures c.version_of-last.ensures) c.requires (omega arith) _
    (named-room _ _ _ _ _ _ _ _ c.capacity-room.ensures c.admit.ensures) _ c.in_ok-fresh.was c.in-None.ensures
