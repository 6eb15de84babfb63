-- `choosing::is_worth` meets its contract.
-- Assumes nothing.
use Rattle.choosing.proofs.Laws.{worth}
use Rattle.choosing.proofs.is_worth.Goals as goal

pub returns : goal.returns
returns c = worth _ _ c.lines_for.ensures
