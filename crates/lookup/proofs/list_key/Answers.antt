-- `lookup::list_key` meets its contract.
-- Assumes nothing.
use Rattle.lookup.proofs.Answers.{key-open}
use Rattle.lookup.proofs.list_key.Goals as goal

pub returns : goal.returns
returns c = key-open _ _ _ _ _ c.read_gate.ensures _ _ _ c.in_ok-read_gate.was c.get.ensures (rw c.size_by.ensures at c.by_word.ensures)
