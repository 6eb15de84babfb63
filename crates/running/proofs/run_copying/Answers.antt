-- `running::run_copying` meets its contract.
-- Assumes nothing.
use Rattle.running.proofs.Runs.{copies}
use Rattle.running.proofs.run_copying.Goals as goal

pub returns : goal.returns
returns c =
    copies _ _ _ _ _ _ _ _ _ c.store_kept-at.ensures
    (rw c.at_action-stored.ensures at c.run_cleaning.ensures)
