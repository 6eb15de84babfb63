-- `apply::remove::rebuild` meets its contract.
-- Assumes nothing.
use Rattle.apply.proofs.Ends.{built-or}
use Rattle.apply.proofs.remove.rebuild.Goals as goal

pub returns : goal.returns
returns c = rw c.unwrap_or.ensures (built-or c.args.size _ _ _ _ _ _ _ c.check_log.ensures c.args.keys)
