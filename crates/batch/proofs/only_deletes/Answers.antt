-- `batch::only_deletes` meets its contract.
-- Assumes nothing.
use mathlib.Core.Path.{sym, ◌∙◌}
use mathlib.Core.Bool.{false}
use native.Mathlib.Omega.{arith}
use borrow.Author.Tests.{eq-eqb, ne_eqb}
use Rattle.spec.specs.Basics.{all}
use Rattle.spec.specs.Plans.{is_delete}
use Rattle.batch.proofs.Pass.{pass-start, pass-next, pass-stop, pass-end}
use Rattle.batch.proofs.only_deletes.Goals as goal

pub loop-at-init : goal.loop-at-init
loop-at-init c = let a = c.args in pass-start a.buffer.now a.words (all is_delete)

pub loop-at-preserved : goal.loop-at-preserved
loop-at-preserved c =
    let a = c.args in
    let at = c.loop-at in
    let item = c.item_at-item in
    pass-next a.buffer.now a.words (all is_delete) at.at (all is_delete) item.result (omega arith)
    item.ensures.0 at.invariant
    (all is_delete)
    (λ e tail o v k. rw
    (eq-eqb e.op 2 (sym o ∙ c.if-item-ne2.false)))

pub returns-then-item-ne2 : goal.returns-then-item-ne2
returns-then-item-ne2 c items s =
    let a = c.args in
    let at = c.loop-at in
    let item = c.item_at-item in
    sym
    (pass-stop a.buffer.now a.words (all is_delete) at.at (all is_delete) item.result (omega arith) item.ensures.0 at.invariant
    false (λ e tail o. rw (ne_eqb e.op 2 (λ q. c.if-item-ne2.true (o ∙ q)))) items s)

pub returns : goal.returns
returns c items s =
    let a = c.args in
    let at = c.loop-at in
    sym (pass-end a.buffer.now a.words (all is_delete) at.at (all is_delete) (omega arith) at.invariant items s)
