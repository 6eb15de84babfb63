-- `printing::put_place` meets its contract.
-- Assumes nothing.
use Rattle.text.proofs.Texts.{put-writes}
use Rattle.printing.proofs.put_place.Goals as goal

pub returns-then-block : goal.returns-then-block
returns-then-block g c = rw c.if-block.true (put-writes _ _ _ _ c.put_bytes.ensures)

pub returns-else-block : goal.returns-else-block
returns-else-block g c = rw c.if-block.false (put-writes _ _ _ _ c.put_bytes-else-block.ensures)
