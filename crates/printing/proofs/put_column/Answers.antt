-- `printing::put_column` meets its contract.
-- Assumes nothing.
use Rattle.text.proofs.Texts.{put-writes}
use Rattle.printing.proofs.put_column.Goals as goal

pub returns-in-Lines : goal.returns-in-Lines
returns-in-Lines g c = rw c.in-Lines.is (put-writes _ _ _ _ c.put_decimal.ensures)

pub returns-in-Pages : goal.returns-in-Pages
returns-in-Pages g c = rw c.in-Pages.is (put-writes _ _ _ _ c.put_right.ensures)
