-- `volatile::single_entry` meets its contract.
-- Assumes nothing.
use Rattle.volatile.specs.Known.{alone}
use Rattle.volatile.proofs.single_entry.Goals as goal

pub returns : goal.returns
unfolding alone
returns c = c.pack.ensures
