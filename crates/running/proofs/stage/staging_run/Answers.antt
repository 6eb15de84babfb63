-- `running::stage::staging_run` meets its contract.
-- Assumes nothing.
use mathlib.Core.Path.{refl}
use native.Mathlib.Omega.{arith}
use Rattle.running.proofs.Staging.{past-ends, flush-acts, flush-ends}
use Rattle.running.proofs.stage.staging_run.Goals as goal

pub returns-then-at-ge-BEHIND_ALL : goal.returns-then-at-ge-BEHIND_ALL
returns-then-at-ge-BEHIND_ALL c = record { within = λ h. past-ends _ _ _ _ _ h _ _ c.staged.ensures.0 c.staged.ensures.1 (omega arith); without = λ no. absurd (no (c.is_staging.ensures.0 c.if-is_staging.true)) }

pub returns-then-at-behind : goal.returns-then-at-behind
returns-then-at-behind c =
    record {
      within = λ h. c.store_run.ensures.runs _ h;
      without = λ no. absurd (no (c.is_staging.ensures.0 c.if-is_staging.true));
    }

pub returns-then-behind-held : goal.returns-then-behind-held
returns-then-behind-held c =
    record {
      within = λ h. flush-ends _ _ _ _ _ _ c.take_count.ensures.0
          c.held_words-held.ensures.0 (omega arith) _ h _ _ c.staged-then-behind-held.ensures.0 c.staged-then-behind-held.ensures.1
          (omega arith);
      without = λ no. absurd (no (c.is_staging.ensures.0 c.if-is_staging.true));
    }

pub returns-then-is_staging : goal.returns-then-is_staging
returns-then-is_staging c =
    rw c.at_action-moved.ensures
    (record {
      within = λ h. flush-acts _ _ _ _ _ _ c.take_count.ensures.0 c.held_words-held.ensures.0
          (omega arith) _ h _ (omega arith)
          (let u = c.unit_of-unit.ensures.0 in let l = c.unit_of-unit.ensures.1 in let w =
          c.word_offset.ensures in omega arith);
      without = λ no. absurd (no (c.is_staging.ensures.0 c.if-is_staging.true));
    })

pub returns : goal.returns
returns c = record { within = λ h. absurd (c.is_staging.ensures.1 c.if-is_staging.false h); without = λ no. (refl, refl) }
