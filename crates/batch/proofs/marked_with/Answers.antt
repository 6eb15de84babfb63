-- `batch::marked_with` meets its contract.
-- Assumes nothing.
use Rattle.batch.proofs.Marks.{bit-set}
use Rattle.batch.proofs.marked_with.Goals as goal

pub returns : goal.returns
returns c =
    let a = c.args in
    bit-set a.marks a.key c.filter_bit.result c.filter_bit.ensures.0 c.filter_bit.ensures.1
