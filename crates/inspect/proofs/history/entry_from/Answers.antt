-- `inspect::history::entry_from` meets its contract.
-- Assumes nothing.
use Rattle.inspect.proofs.Passed.{entry-told}
use Rattle.inspect.proofs.history.entry_from.Goals as goal

pub returns : goal.returns
returns c = entry-told c.size_said-size.result _ _ _ _ _ _ _ _ c.size_said-size.ensures c.chunks_in-count.ensures.0 c.first_in-e.ensures c.best_of-best.ensures c.mark.ensures
