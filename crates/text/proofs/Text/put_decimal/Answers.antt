-- `text::Text::put_decimal` meets its contract.
-- Assumes nothing.
use Rattle.text.specs.Text.{decimal}
use Rattle.text.proofs.Columns.{right-none}
use Rattle.text.proofs.Text.put_decimal.Goals as goal

pub returns : goal.returns
returns g c = rw (right-none (decimal c.args.number)) at c.put_right.ensures
