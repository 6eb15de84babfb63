-- `stepping::is_stored` meets its contract.
-- Assumes nothing.
use mathlib.Core.Path.{sym, ◌∙◌}
use borrow.Author.Tests.{le-leb}
use Rattle.actions.proofs.Filling.{none_left}
use Rattle.stepping.proofs.is_stored.Goals as goal

pub returns-then-at-ge-BEHIND_ALL : goal.returns-then-at-ge-BEHIND_ALL
returns-then-at-ge-BEHIND_ALL c = le-leb _ _ c.if-at-ge-BEHIND_ALL.true ∙ sym (le-leb _ _ (none_left _ _ _ c.if-at-ge-BEHIND_ALL.true))
