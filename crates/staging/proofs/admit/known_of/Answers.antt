-- `staging::admit::known_of` meets its contract.
-- Assumes nothing.
use Rattle.staging.proofs.Known.{known-staged, known-committed, unstaged, unstaged_none}
use Rattle.staging.proofs.admit.known_of.Goals as goal
use Rattle.staging.proofs.admit.known_of.Goals.{in_default-via-in-Some+else-last-ne0, in_default-via-in_default}

pub returns-in-Some : goal.returns-in-Some
returns-in-Some c = known-staged c.args.size _ _ _ _ _ c.last_staged.ensures _ c.in-Some.is c.if-last-ne0.true

pub returns-in_default : goal.returns-in_default
returns-in_default c =
    known-committed c.args.size _ _ _ _ _ c.last_staged.ensures _ c.committed.ensures
    (elim c.in_default.branch [
      | in_default-via-in-Some+else-last-ne0 w ↦ unstaged c.args.size _ _ _ _ _ c.last_staged.ensures _ w.in-Some.is w.if-last-ne0.false
      | in_default-via-in_default w ↦ unstaged_none c.args.size _ _ _ _ _ c.last_staged.ensures w.in_default.is
    ])
