-- `committing::commit_core` meets its contract.
-- Assumes nothing.
use Rattle.committing.proofs.commit_core.Goals as goal

pub returns-in-Err : goal.returns-in-Err
returns-in-Err c = c.in-Err.ensures

pub returns-in-Ok : goal.returns-in-Ok
returns-in-Ok c = rw c.in_phase.ensures c.in-Ok.ensures
