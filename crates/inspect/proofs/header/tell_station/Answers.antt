-- `inspect::header::tell_station` meets its contract.
-- Assumes nothing.
use Rattle.inspect.proofs.header.tell_station.Goals as goal

pub returns : goal.returns
returns c = rw (← c.station.ensures) c.tell.ensures
