-- `running::commit::finish_step` meets its contract.
-- Assumes nothing.
use mathlib.Core.Path.{refl}
use native.Mathlib.Omega.{arith}
use Rattle.running.proofs.Finishing.{finish-ends, finish-joins}
use Rattle.running.proofs.commit.finish_step.Goals as goal

pub returns-then-commit_count-control : goal.returns-then-commit_count-control
returns-then-commit_count-control c =
    record {
      within = λ h. finish-ends _ _ _ _ _ h _ _ (omega arith) c.ended.ensures.0 c.ended.ensures.1;
      without = λ no. absurd (no (c.is_finishing.ensures.0 c.if-is_finishing.true));
    }

pub returns-then-is_finishing : goal.returns-then-is_finishing
returns-then-is_finishing c =
    record {
      within = λ h. finish-joins _ _ _ _ _ h _ _ _ _ c.size_by-size.result _ _ c.size_by-size.ensures
          c.batch_start-place.ensures.0 (omega arith) c.join-keys.ensures c.fenced.ensures.0 c.fenced.ensures.1;
      without = λ no. absurd (no (c.is_finishing.ensures.0 c.if-is_finishing.true));
    }

pub returns : goal.returns
returns c = record { within = λ h. absurd (c.is_finishing.ensures.1 c.if-is_finishing.false h); without = λ no. (refl, refl) }
