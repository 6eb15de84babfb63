-- `lookup::first_word` meets its contract.
-- Assumes nothing.
use Rattle.lookup.proofs.first_word.Goals as goal

pub returns : goal.returns
returns c = c.load_leading.ensures
