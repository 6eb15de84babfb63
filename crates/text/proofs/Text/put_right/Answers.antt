-- `text::Text::put_right` meets its contract.
-- Assumes nothing.
use Rattle.std.proofs.Common.{rules}
use Rattle.text.specs.Text.{decimal, right_in}
use Rattle.text.proofs.Texts.{lent-within, lent-text}
use Rattle.text.proofs.Text.put_right.Goals as goal

pub invariant_of-self : goal.invariant_of-self
invariant_of-self g c =
    rw c.put_right-self-inside.ensures.0 (lent-within g.row.N c.self.inside.len c.self.inside.bytes c.args.self.now (right_in c.args.width (decimal c.args.number)) c.self.view_is c.self.invariant (search rules))

pub returns : goal.returns
returns g c =
    rw (c.put_right-self-inside.ensures.0, c.put_right-self-inside.ensures.1) (lent-text g.row.N c.self.inside.len c.self.inside.bytes c.args.self.now (right_in c.args.width (decimal c.args.number)) c.self.view_is c.self.invariant (search rules))
