-- `inspect::header::station` meets its contract.
-- Assumes nothing.
use Rattle.inspect.proofs.Numbers.{station-right, station-wrong}
use Rattle.inspect.proofs.header.station.Goals as goal

pub returns-then-not-is_taken : goal.returns-then-not-is_taken
returns-then-not-is_taken c = station-wrong _ _ _ c.is_taken.ensures c.if-not-is_taken.true

pub returns : goal.returns
returns c = station-right _ _ _ c.is_taken.ensures c.if-not-is_taken.false _ _ c.load.ensures c.load-2.ensures _ c.station_by.ensures
