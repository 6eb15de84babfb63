-- `inspect::describe` meets its contract.
-- Assumes nothing.
use Rattle.std.proofs.Common.{refl}
use Rattle.inspect.proofs.Shows.{row-refused, row_open}
use Rattle.inspect.proofs.describe.Goals as goal

pub returns-in-Err : goal.returns-in-Err
returns-in-Err c = row-refused _ _ _ _ _ c.in-Err.ensures _ _ _ _ refl c.number.ensures c.plain_row.ensures

pub returns-in-Ok : goal.returns-in-Ok
returns-in-Ok c = row_open _ _ _ _ _ c.in-Ok.ensures _ _ refl (rw c.size_by.ensures at c.row_at.ensures)
