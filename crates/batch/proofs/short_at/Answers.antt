-- `batch::short_at` meets its contract.
-- Assumes nothing.
use Rattle.batch.proofs.Staged.{short-staged}
use Rattle.batch.proofs.short_at.Goals as goal

pub returns : goal.returns
returns c = short-staged c.args.buffer.now c.args.at c.args.end c.told_put.result c.told_put.ensures
