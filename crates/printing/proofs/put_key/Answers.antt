-- `printing::put_key` meets its contract.
-- Assumes nothing.
use Rattle.printing.proofs.Prints.{key-none, key-line}
use Rattle.printing.proofs.put_key.Goals as goal

pub returns-in-Ok : goal.returns-in-Ok
returns-in-Ok g c = key-line _ _ _ _ _ _ _ _ _ _ c.list_key.ensures _ _ c.in-Ok.is c.put_entry.ensures

pub returns-in_default : goal.returns-in_default
returns-in_default g c = key-none _ _ _ _ _ _ _ _ _ _ c.list_key.ensures c.in_default.not-Ok
