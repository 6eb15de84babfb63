-- `actions::block::unit_of` meets its contract.
-- Assumes nothing.
use Rattle.actions.proofs.Filling.{unit-is}
use Rattle.actions.proofs.block.unit_of.Goals as goal

pub returns : goal.returns
returns c =
    unit-is c.args.setup c.size_by-size.result c.of.result.0 c.size_by-size.ensures c.of.ensures
