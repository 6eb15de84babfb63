-- `consistency::marked` meets its contract, case by case.
-- Assumes nothing.
use mathlib.Core.Path.{sym, ◌∙◌}
use native.Mathlib.Omega.{arith}
use Rattle.consistency.proofs.Marks.{marked_other, marked-none, marked-seen, marked-new}
use Rattle.consistency.proofs.marked.Goals as goal
use Rattle.consistency.proofs.marked.Goals.{then-e-place-via-then-e-place, then-e-place-via-else-e-place+then-not-points}

pub returns-then-e-place : goal.returns-then-e-place
returns-then-e-place c =
    let a = c.args in
    elim c.then-e-place.branch [
      | then-e-place-via-then-e-place w ↦ marked_other a.size a.apart a.e a.place a.buffer.now (λ q. omega arith)
      | then-e-place-via-else-e-place+then-not-points w ↦ marked-none a.size a.apart a.e a.place a.buffer.now (sym w.points.ensures ∙ w.if-not-points.true)
    ]

pub returns-then-has_bit : goal.returns-then-has_bit
returns-then-has_bit c =
    let a = c.args in
    marked-seen a.size a.apart a.e a.place a.buffer.now (omega arith)
    (sym c.points.ensures ∙ c.if-not-points.false)
    (sym c.has_bit.ensures ∙ c.if-has_bit.true)

pub returns : goal.returns
returns c =
    let a = c.args in
    marked-new a.size a.apart a.e a.place a.buffer.now (omega arith)
    (sym c.points.ensures ∙ c.if-not-points.false)
    (sym c.has_bit.ensures ∙ c.if-has_bit.false) _ c.set_bit.ensures
