-- `printing::put_page` meets its contract.
-- Assumes nothing.
use Rattle.printing.proofs.Pieces.{new-page}
use Rattle.printing.proofs.put_page.Goals as goal

pub returns-then-row-eq0 : goal.returns-then-row-eq0
returns-then-row-eq0 g c = new-page _ _ _ _ _ c.if-row-ne0.true c.if-row-eq0.true c.put_bytes.ensures c.put_heading.ensures
