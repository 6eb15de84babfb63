-- `placing::blocks::is_staged` meets its contract.
-- Assumes nothing.
use native.Mathlib.Omega.{arith}
use Rattle.placing.proofs.Staged.{pass-start, pass-next, pass-stop, pass-end}
use Rattle.placing.proofs.blocks.is_staged.Goals as goal

pub loop-at-init : goal.loop-at-init
loop-at-init c = let a = c.args in pass-start a.buffer.now a.words a.unit.0

pub returns-then-met : goal.returns-then-met
returns-then-met c items s =
    let a = c.args in
    let at = c.loop-at in
    let m = c.met_at-met in
    pass-stop a.buffer.now a.words a.unit.0 at.at m.result (omega arith) m.ensures.0 at.invariant
    c.if-met.true items s

pub loop-at-preserved : goal.loop-at-preserved
loop-at-preserved c =
    let a = c.args in
    let at = c.loop-at in
    let m = c.met_at-met in
    pass-next a.buffer.now a.words a.unit.0 at.at m.result (omega arith) m.ensures.0 at.invariant
    c.if-met.false

pub returns : goal.returns
returns c items s =
    let a = c.args in
    let at = c.loop-at in
    pass-end a.buffer.now a.words a.unit.0 at.at (omega arith) at.invariant items s
