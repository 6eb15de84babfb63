-- `printing::put_line` meets its contract.
-- Assumes nothing.
use Rattle.printing.proofs.Pieces.{writes-line}
use Rattle.printing.proofs.put_line.Goals as goal

pub returns : goal.returns
returns g c = writes-line _ _ _ _ _ _ _ _ _ _ _ _ c.put_column.ensures c.put_bytes.ensures c.put_column-2.ensures c.put_bytes-2.ensures c.put_column-3.ensures c.put_place.ensures
