-- `printing::put_heading` meets its contract.
-- Assumes nothing.
use Rattle.text.proofs.Texts.{put-writes}
use Rattle.printing.proofs.Pieces.{heading-is}
use Rattle.printing.proofs.put_heading.Goals as goal

pub returns : goal.returns
returns g c = rw heading-is (put-writes _ _ _ _ c.put_bytes.ensures)
