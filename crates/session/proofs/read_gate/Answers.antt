-- `session::read_gate` meets its contract.
-- Assumes nothing.
use mathlib.Core.Path.{sym, ap, ◌∙◌}
use mathlib.Core.Option.{some}
use borrow.Author.Tests.{eqb-true}
use Rattle.session.proofs.Gates.{rest-open, read-open, read-unfinished, read-unlike}
use Rattle.session.proofs.read_gate.Goals as goal
use Rattle.session.proofs.read_gate.Goals.{then-is_at_rest-via-then-is_at_rest, then-is_at_rest-via-else-is_at_rest+then-is_read}

pub returns-then-not-has_lengths : goal.returns-then-not-has_lengths
returns-then-not-has_lengths c = record { asked = λ b. read-unlike _ _ b _ _ (sym c.if-not-has_lengths.ensures) ∙ ap some (sym c.closed_or.ensures) }

pub returns-then-is_at_rest : goal.returns-then-is_at_rest
returns-then-is_at_rest c =
    elim c.then-is_at_rest.branch [
      | then-is_at_rest-via-then-is_at_rest w ↦ record { asked = λ b. rest-open _ _ b _ _ (sym c.if-not-has_lengths.ensures) (eqb-true _ 1 (sym w.if-is_at_rest.ensures)) }
      | then-is_at_rest-via-else-is_at_rest+then-is_read w ↦ record { asked = λ b. read-open _ _ b _ _ (sym c.if-not-has_lengths.ensures) (sym w.if-is_read.ensures) }
    ]

pub returns : goal.returns
returns c = record { asked = λ b. read-unfinished _ _ b _ _ (sym c.if-not-has_lengths.ensures) (sym c.if-is_read.ensures) ∙ ap some (sym c.closed_or-2.ensures) }
