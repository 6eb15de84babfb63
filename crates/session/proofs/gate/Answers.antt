-- `session::gate` meets its contract.
-- Assumes nothing.
use mathlib.Core.Path.{sym, ap, ◌∙◌}
use mathlib.Core.Option.{some}
use borrow.Author.Tests.{eqb-true, eqb-false}
use Rattle.session.proofs.Gates.{gate-open, gate-unfinished, gate-unlike}
use Rattle.session.proofs.gate.Goals as goal

pub returns-then-not-has_lengths : goal.returns-then-not-has_lengths
returns-then-not-has_lengths c = record { asked = λ b. gate-unlike _ _ b _ _ (sym c.if-not-has_lengths.ensures) ∙ ap some (sym c.closed_or.ensures) }

pub returns-then-is_at_rest : goal.returns-then-is_at_rest
returns-then-is_at_rest c = record { asked = λ b. gate-open _ _ b _ _ (sym c.if-not-has_lengths.ensures) (eqb-true _ 1 (sym c.if-is_at_rest.ensures)) }

pub returns : goal.returns
returns c = record { asked = λ b. gate-unfinished _ _ b _ _ (sym c.if-not-has_lengths.ensures) (eqb-false _ 1 (sym c.if-is_at_rest.ensures)) ∙ ap some (sym c.closed_or-2.ensures) }
