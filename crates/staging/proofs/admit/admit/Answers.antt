-- `staging::admit::admit` meets its contract.
-- Assumes nothing.
use mathlib.Core.Path.{sym, ◌∙◌}
use Rattle.staging.proofs.Admits.{named-yes, named-no}
use Rattle.staging.proofs.admit.admit.Goals as goal

pub returns-then-is_named : goal.returns-then-is_named
returns-then-is_named c =
    let a = c.args in
    named-yes a.named a.control a.most a.version a.more a.room _ (sym c.is_named.ensures ∙ c.if-is_named.true) c.admit_any.ensures

pub returns : goal.returns
returns c =
    let a = c.args in
    named-no a.named a.control a.most a.version a.more a.room (sym c.is_named.ensures ∙ c.if-is_named.false)
