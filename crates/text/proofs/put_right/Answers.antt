-- `text::put_right` meets its contract.
-- Assumes nothing.
use Rattle.std.proofs.Common.{◌≡◌, ◌-◌, ◌≤◌, rules}
use Rattle.text.specs.Text.{most_digits}
use Rattle.text.proofs.Columns.{column}
use Rattle.text.proofs.put_right.Goals as goal

pub returns : goal.returns
returns c =
    let from = c.digits-from.result in
    let s = c.min.result in
    let low : s ≤ from = search rules in
    let there : from - s ≡ c.args.width - (most_digits - from) = search rules in
    rw (column c.digits-from.new.out c.args.number from c.args.width s c.digits-from.ensures low there) at c.put_bytes_at.ensures
