-- `running::run_core` meets its contract.
-- Assumes nothing.
use Rattle.running.proofs.run_core.Goals as goal

pub returns-then-is_copying : goal.returns-then-is_copying
returns-then-is_copying c =
    rw c.at_action-moved.ensures
    (c.run_copying-run.ensures.runs _
    (c.is_copying.ensures.0 c.if-is_copying.true))

pub returns : goal.returns
returns c = c.run_steps.ensures
