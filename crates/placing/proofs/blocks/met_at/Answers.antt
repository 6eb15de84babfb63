-- `placing::blocks::met_at` meets its contract, by what the first word says.
-- Assumes nothing.
use mathlib.Core.Path.{sym, ◌∙◌, ap}
use mathlib.Core.Logic.{⊎_elim}
use native.Mathlib.Omega.{arith}
use Rattle.placing.specs.Blocks.{met_by}
use Rattle.placing.proofs.blocks.met_at.Goals as goal

pub returns-in-Padding : goal.returns-in-Padding
returns-in-Padding c =
    let a = c.args in (
      ⊎_elim (λ e. sym (ap (met_by a.unit.0) (sym c.first_of.ensures ∙ e))) (λ e. sym (ap (met_by a.unit.0) (sym c.first_of.ensures ∙ e))) c.in-Padding.is,
      omega arith,
      omega arith,
    )

pub returns-in-Entry : goal.returns-in-Entry
returns-in-Entry c =
    let a = c.args in
    let said = sym c.first_of.ensures ∙ c.in-Entry.is in (
      rw (c.points_to.ensures, c.words_for.ensures.0) (sym (ap (met_by a.unit.0) said)),
      omega arith,
      omega arith,
    )
