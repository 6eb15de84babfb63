-- `choosing::choose` meets its contract.
-- Assumes nothing.
use native.Mathlib.Omega.{arith}
use Rattle.choosing.proofs.Loop.{looked-start, looked-next, looked-nothing, looked-found}
use Rattle.choosing.proofs.choose.Goals as goal

pub loop-c-init : goal.loop-c-init
loop-c-init c = looked-start _ _ _ _ _

pub loop-c-preserved : goal.loop-c-preserved
loop-c-preserved c = looked-next _ _ _ _ _ _ _ c.loop-c.invariant (omega arith) _ c.better_at-best.ensures

pub returns : goal.returns
returns c = looked-found _ _ _ _ _ _ _ c.loop-c.invariant (omega arith) _ c.in_ok-best.was

pub returns-in_err-best : goal.returns-in_err-best
returns-in_err-best c = rw c.from_residual.ensures (looked-nothing _ _ _ _ _ _ _ c.loop-c.invariant (omega arith) c.in_err-best.was)
