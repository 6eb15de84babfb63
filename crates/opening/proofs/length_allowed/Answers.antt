-- `opening::length_allowed` meets its contract.
-- Assumes nothing.
use Rattle.spec.specs.Places.{any_allowed}
use Rattle.opening.proofs.length_allowed.Goals as goal

pub returns-then-length_allowed : goal.returns-then-length_allowed
unfolding any_allowed
returns-then-length_allowed c = rw (← c.length_allowed.ensures, c.if-length_allowed.true)

pub returns-else-length_allowed : goal.returns-else-length_allowed
unfolding any_allowed
returns-else-length_allowed c = rw (← c.length_allowed.ensures, c.if-length_allowed.false) c.length_allowed-else-length_allowed.ensures
