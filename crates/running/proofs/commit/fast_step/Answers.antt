-- `running::commit::fast_step` meets its contract.
-- Assumes nothing.
use mathlib.Core.Path.{refl}
use native.Mathlib.Omega.{arith}
use Rattle.running.proofs.Fast as I
use Rattle.running.proofs.commit.fast_step.Goals as goal

pub overflow_add-next : goal.overflow_add-next
overflow_add-next c =
    let l = (c.is_fast_step.ensures.0 c.if-is_fast_step.true).1.1.1 in omega arith

pub returns-then-is_fast_step : goal.returns-then-is_fast_step
returns-then-is_fast_step c =
    record {
      within = λ h. I.fast-acts _ _ _ _ _ _ h _ c.commit_action-action.ensures
          c.perform.ensures;
      without = λ no. absurd (no (c.is_fast_step.ensures.0 c.if-is_fast_step.true));
    }

pub returns : goal.returns
returns c = record { within = λ h. absurd (c.is_fast_step.ensures.1 c.if-is_fast_step.false h); without = λ no. (refl, refl) }
