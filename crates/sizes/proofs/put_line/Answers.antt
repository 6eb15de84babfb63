-- `sizes::put_line` meets its contract.
-- Assumes nothing.
use Rattle.sizes.proofs.Lines.{line-text}
use Rattle.sizes.proofs.put_line.Goals as goal

pub returns : goal.returns
returns c = line-text _ _ _ _ _ c.args.units c.block_size_for_units.ensures c.put_decimal.ensures c.put_bytes.ensures
