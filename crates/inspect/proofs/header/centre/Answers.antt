-- `inspect::header::centre` meets its contract.
-- Assumes nothing.
use Rattle.inspect.proofs.Numbers.{centre-right, centre-wrong}
use Rattle.inspect.proofs.header.centre.Goals as goal

pub returns-then-not-is_taken : goal.returns-then-not-is_taken
returns-then-not-is_taken c = centre-wrong _ _ _ c.is_taken.ensures c.if-not-is_taken.true

pub returns : goal.returns
returns c = centre-right _ _ _ c.is_taken.ensures c.if-not-is_taken.false _ _ _ c.load.ensures c.load-first.ensures c.load-second.ensures _ c.centre_by.ensures
