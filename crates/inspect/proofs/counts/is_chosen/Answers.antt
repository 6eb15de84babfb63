-- `inspect::counts::is_chosen` meets its contract.
-- Assumes nothing.
use Rattle.inspect.proofs.counts.is_chosen.Goals as goal

pub returns : goal.returns
returns c = rw (c.unpack-info.ensures, c.get.ensures)
