-- `stepping::format_step` meets its contract.
-- Assumes nothing.
use native.Mathlib.Omega.{arith}
use Rattle.stepping.proofs.Shows as S
use Rattle.stepping.proofs.format_step.Goals as goal

pub returns-then-format_count-at : goal.returns-then-format_count-at
returns-then-format_count-at c =
    rw c.closed-closed.ensures
    (S.format-ends _ _ _ _ _ (omega arith) (omega arith) (omega arith) (omega arith) (omega arith))

pub returns : goal.returns
returns c =
    rw c.at_action-moved.ensures
    (S.format-acts _ _ _ _ _ (omega arith) (omega arith) (omega arith) (omega arith) _ _ (omega arith) c.format_action-action.ensures c.perform.ensures)
