-- `apply::remove::is_copied` meets its contract.
-- Assumes nothing.
use Rattle.apply.proofs.Shows.{copied-put, copied-done, copied-wrong, copied_next}
use Rattle.apply.proofs.remove.is_copied.Goals as goal

pub returns-then-op-eq1 : goal.returns-then-op-eq1
returns-then-op-eq1 c = copied-put c.args.size _ _ _ _ _ c.if-op-eq1.true

pub returns-in-Ok-Some : goal.returns-in-Ok-Some
returns-in-Ok-Some c = copied_next c.args.size _ _ _ _ _ _ (rw c.in-Ok-Some.field-0-is at c.in-Ok-Some.ensures)

pub returns-in-Ok-None : goal.returns-in-Ok-None
returns-in-Ok-None c = copied-done c.args.size _ _ _ _ _ (rw c.in-Ok-None.field-0-is at c.in-Ok-None.ensures)

pub returns-in-Err : goal.returns-in-Err
returns-in-Err c = copied-wrong c.args.size _ _ _ _ _ c.in-Err.ensures
