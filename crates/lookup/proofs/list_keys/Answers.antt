-- `lookup::list_keys` meets its contract.
-- Assumes nothing.
use Rattle.lookup.proofs.Answers.{keys-open}
use Rattle.lookup.proofs.list_keys.Goals as goal

pub returns : goal.returns
returns c = keys-open _ _ _ _ _ c.read_gate.ensures _ _ _ c.in_ok-read_gate.was (rw c.size_by-size.ensures at c.present_keys.ensures)
