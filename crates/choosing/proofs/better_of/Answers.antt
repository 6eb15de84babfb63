-- `choosing::better_of` meets its contract.
-- Assumes nothing.
use Rattle.choosing.proofs.Laws.{not-worth}
use Rattle.choosing.proofs.better_of.Goals as goal

pub returns-then-not-is_worth : goal.returns-then-not-is_worth
returns-then-not-is_worth c = not-worth _ _ (rw c.if-not-is_worth.true at c.is_worth.ensures)
