-- `actions::block::hold_value` meets its contract.
-- Assumes nothing.
use native.Mathlib.Omega.{arith}
use Rattle.actions.proofs.Holding.{held_more}
use Rattle.actions.proofs.block.hold_value.Goals as goal

pub returns-then-value-largest_value : goal.returns-then-value-largest_value
returns-then-value-largest_value c =
    let a = c.args in
    held_more a.size a.buffer.now _ a.value.now (omega arith) (omega arith) c.pack_into.ensures
