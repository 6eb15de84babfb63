-- `apply::join::join_common` meets its contract.
-- Assumes nothing.
use Rattle.std.proofs.Common.{[]}
use Rattle.apply.proofs.Puts.{puts-start}
use Rattle.apply.proofs.join.join_common.Goals as goal

pub shape_of-table : goal.shape_of-table
shape_of-table c = (c.join_puts.ensures.goes []).sized

pub returns-in-Small : goal.returns-in-Small
returns-in-Small c =
    rw c.in-Small.is c.join_puts.ensures

pub returns-in-Large : goal.returns-in-Large
returns-in-Large c =
    puts-start c.args.size _ _ _ _ _ _ c.told-buffer
