-- `staging::abandon_core` meets its contract.
-- Assumes nothing.
use mathlib.Core.Path.{sym, ◌∙◌}
use Rattle.staging.proofs.Shows.{at-gate, abandon-none, abandon-done}
use Rattle.staging.proofs.abandon_core.Goals as goal

pub returns-then-any_item : goal.returns-then-any_item
returns-then-any_item c =
    rw c.ended_empty.ensures
    (abandon-done _ _ _ _ _ _ c.gate.ensures c.in_default.is
    (sym c.any_item.ensures ∙ c.if-any_item.true))

pub returns-in-Err : goal.returns-in-Err
returns-in-Err c = at-gate _ _ _ _ _ _ c.gate.ensures _ tt _ c.in-Err.is

pub returns : goal.returns
returns c = abandon-none _ _ _ _ _ _ c.gate.ensures c.in_default.is (sym c.any_item.ensures ∙ c.if-any_item.false)
