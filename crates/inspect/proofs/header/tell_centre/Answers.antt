-- `inspect::header::tell_centre` meets its contract.
-- Assumes nothing.
use Rattle.inspect.proofs.header.tell_centre.Goals as goal

pub returns : goal.returns
returns c = rw (← c.centre.ensures) c.tell.ensures
