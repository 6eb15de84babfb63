-- `stepping::commit_step` meets its contract.
-- Assumes nothing.
use native.Mathlib.Omega.{arith}
use Rattle.stepping.proofs.Shows as S
use Rattle.stepping.proofs.commit_step.Goals as goal

pub returns-then-count-at : goal.returns-then-count-at
returns-then-count-at c =
    rw (c.ended.ensures.0, c.ended.ensures.1)
    (S.commit-ends _ _ _ _ _ (omega arith) (omega arith) (omega arith) (omega arith))

pub returns-then-next-count : goal.returns-then-next-count
returns-then-next-count c =
    rw c.in_phase-moved.ensures
    (S.commit-acts _ _ _ _ _ (omega arith) (omega arith) (omega arith) _ _ c.commit_action-act.ensures c.perform.ensures (omega arith))

pub returns : goal.returns
returns c =
    rw (c.fenced.ensures.0, c.fenced.ensures.1)
    (S.commit-fences _ _ _ _ _ (omega arith) (omega arith) (omega arith) _ _ _ _ c.batch_start-place.ensures.0
    (omega arith) (omega arith) (rw c.size_by-size.ensures at c.join-keys.ensures))
