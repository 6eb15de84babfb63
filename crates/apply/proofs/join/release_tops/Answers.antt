-- `apply::join::release_tops` meets its contract.
-- Assumes nothing.
use Rattle.apply.proofs.Freeing.{tops-in-log, tops-at}
use Rattle.apply.proofs.join.release_tops.Goals as goal

pub returns-then-info-gt0 : goal.returns-then-info-gt0
returns-then-info-gt0 c =
    tops-in-log c.args.size _ _ _ c.told-buffer c.if-info-gt0.true

pub returns : goal.returns
returns c =
    tops-at c.args.size _ _ _ _ c.release_at.ensures
