-- `apply::remove::with_copy` meets its contract.
-- Assumes nothing.
use Rattle.apply.proofs.Shows.{word-turned}
use Rattle.apply.proofs.remove.with_copy.Goals as goal

pub returns : goal.returns
returns c = word-turned c.args.size _ _ _ c.unpack-info.result c.unpack-info.ensures c.pack.ensures
