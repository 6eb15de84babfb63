-- `faults::place_at` meets its contract.
-- Assumes nothing.
use Rattle.faults.proofs.place_at.Goals as goal

pub returns : goal.returns
returns c = rw c.chunk_of_word.ensures
