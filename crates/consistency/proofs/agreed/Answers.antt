-- `consistency::agreed` meets its contract, case by case.
-- Assumes nothing.
use mathlib.Core.Path.{refl}
use mathlib.Core.Bool.{false}
use borrow.Author.Tests.{eq-eqb}
use Rattle.spec.specs.Words.{words_of}
use Rattle.consistency.proofs.Visits.{agreed-chosen, agreed-compared, agreed-not}
use Rattle.consistency.proofs.agreed.Goals as goal

pub returns-else-so : goal.returns-else-so
returns-else-so c =
    let a = c.args in
    rw c.if-so.false (agreed-not (words_of a.image.now) false a.e a.place refl)

pub returns-then-e-place : goal.returns-then-e-place
returns-then-e-place c =
    let a = c.args in
    rw (eq-eqb a.e.place a.place c.if-e-place.true) (agreed-chosen (words_of a.image.now) a.so a.e a.place c.if-so.true c.if-e-place.true)

pub returns-else-e-place : goal.returns-else-e-place
returns-else-e-place c =
    let a = c.args in
    agreed-compared (words_of a.image.now) a.so a.e a.place c.if-so.true c.if-e-place.false _ c.agrees.ensures
