-- `apply::remove::with_less` meets its contract.
-- Assumes nothing.
use Rattle.apply.proofs.Shows.{word-less}
use Rattle.apply.proofs.remove.with_less.Goals as goal

pub returns : goal.returns
returns c = word-less c.args.size _ _ _ c.unpack-info.result c.unpack-info.ensures c.saturating_sub.ensures c.pack.ensures
