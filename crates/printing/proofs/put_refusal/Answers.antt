-- `printing::put_refusal` meets its contract.
-- Assumes nothing.
use Rattle.printing.proofs.Pieces.{put-three}
use Rattle.printing.proofs.put_refusal.Goals as goal

pub returns : goal.returns
returns g c = rw c.number.ensures at (put-three _ _ _ _ _ _ _ _ c.put_bytes.ensures c.put_decimal.ensures c.put_bytes-2.ensures)
