-- `inspect::known_keys` meets its contract.
-- Assumes nothing.
use Rattle.std.proofs.Common.{sym, ◌∙◌}
use Rattle.inspect.proofs.Counted.{counted-keys, no_keys}
use Rattle.inspect.proofs.known_keys.Goals as goal

pub returns-then-is_counted : goal.returns-then-is_counted
returns-then-is_counted c = counted-keys _ (sym c.is_counted.ensures ∙ c.if-is_counted.true)

pub returns-else-is_counted : goal.returns-else-is_counted
returns-else-is_counted c = no_keys _ (sym c.is_counted.ensures ∙ c.if-is_counted.false)
