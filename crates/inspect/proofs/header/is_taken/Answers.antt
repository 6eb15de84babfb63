-- `inspect::header::is_taken` meets its contract.
-- Assumes nothing.
use Rattle.inspect.proofs.Numbers.{taken_not, taken-so}
use Rattle.inspect.proofs.header.is_taken.Goals as goal

pub returns : goal.returns
returns c =
    taken-so _ _ _ c.power_said-power.ensures _ c.is_power.ensures _ _ _ c.if-not-is_power.false c.size_by-size.ensures
    c.chunks_in-count.ensures.0 c.header_fits.ensures

pub returns-then-not-is_power : goal.returns-then-not-is_power
returns-then-not-is_power c = taken_not _ _ _ c.power_said-power.ensures _ c.is_power.ensures c.if-not-is_power.true
