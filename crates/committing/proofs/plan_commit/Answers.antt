-- `committing::plan_commit` meets its contract.
-- Assumes nothing.
use Rattle.std.proofs.lemmas.Result.{err_from_is_err_and}
use Rattle.committing.proofs.Begins as B
use Rattle.committing.proofs.plan_commit.Goals as goal

pub returns-in_err-gate : goal.returns-in_err-gate
returns-in_err-gate c =
    let p = err_from_is_err_and c.from_residual.result c.from_residual.ensures.1 in
    rw (p.1, p.2) (B.gate-refuses _ _ _ _ _ _ c.gate.ensures _ c.in_err-gate.was)

pub returns-then-control-eq0 : goal.returns-then-control-eq0
returns-then-control-eq0 c = B.nothing-staged _ _ _ _ _ _ c.gate.ensures c.in_ok-gate.was c.if-control-eq0.true

pub returns-in-Some : goal.returns-in-Some
returns-in-Some c =
    let a = c.args in
    let by = c.size_by-size in
    B.begins _ _ _ _ _ _ c.gate.ensures c.in_ok-gate.was c.if-control-eq0.false _
    (B.place-sized by.result a.setup a.buffer.now a.control.words a.image.now a.setup.first a.setup.least _ by.ensures
    c.commit_place-placed.ensures) c.in-Some.place c.in-Some.is _ c.commit_count.ensures

pub returns-in-None : goal.returns-in-None
returns-in-None c =
    let a = c.args in
    let by = c.size_by-size in
    B.no-space _ _ _ _ _ _ c.gate.ensures c.in_ok-gate.was c.if-control-eq0.false _
    (B.place-sized by.result a.setup a.buffer.now a.control.words a.image.now a.setup.first a.setup.least _ by.ensures
    c.commit_place-placed.ensures) c.in-None.is
