-- `text::Text::put_bytes` meets its contract.
-- Assumes nothing.
use Rattle.std.proofs.Common.{rules}
use Rattle.text.proofs.Texts.{lent-within, lent-text}
use Rattle.text.proofs.Text.put_bytes.Goals as goal

pub invariant_of-self : goal.invariant_of-self
invariant_of-self g c =
    rw c.put_bytes_at-self-inside.ensures.0 (lent-within g.row.N c.self.inside.len c.self.inside.bytes c.args.self.now c.args.bytes.now c.self.view_is c.self.invariant (search rules))

pub returns : goal.returns
returns g c =
    rw (c.put_bytes_at-self-inside.ensures.0, c.put_bytes_at-self-inside.ensures.1) (lent-text g.row.N c.self.inside.len c.self.inside.bytes c.args.self.now c.args.bytes.now c.self.view_is c.self.invariant (search rules))
