-- `running::commit::fast_run` meets its contract.
-- Assumes nothing.
use mathlib.Core.Path.{refl}
use native.Mathlib.Omega.{arith}
use Rattle.running.proofs.Fast.{run-fence, run-seal, run-seal-flush, run-batch}
use Rattle.running.proofs.commit.fast_run.Goals as goal

pub returns-then-at-fence : goal.returns-then-at-fence
returns-then-at-fence c =
    record {
      within = λ h. run-fence _ _ _ _ _ c.batch_lines-lines.ensures _ h c.if-at-fence.true;
      without = λ no. absurd (no (c.is_fast_step.ensures.0 c.if-is_fast_step.true));
    }

pub returns-then-at-fence-2 : goal.returns-then-at-fence-2
returns-then-at-fence-2 c =
    record {
      within = λ h. run-seal _ _ _ _ _ c.batch_lines-lines.ensures _ h _ _ _ _ _ c.if-at-fence-2.true refl
          (omega arith) c.log_word-value.ensures c.save.ensures refl;
      without = λ no. absurd (no (c.is_fast_step.ensures.0 c.if-is_fast_step.true));
    }

pub overflow_add-next-then-fence-at : goal.overflow_add-next-then-fence-at
overflow_add-next-then-fence-at c =
    let l = (c.is_fast_step.ensures.0 c.if-is_fast_step.true).1.1.1 in omega arith

pub returns-then-fence-at : goal.returns-then-fence-at
returns-then-fence-at c =
    record {
      within = λ h. run-seal-flush _ _ _ _ _ c.batch_lines-lines.ensures _ h _
          (let w = c.batch_lines-lines.ensures in let l = h.1.1.1 in let n = c.if-at-fence-2.false in omega (arith, n))
          refl;
      without = λ no. absurd (no (c.is_fast_step.ensures.0 c.if-is_fast_step.true));
    }

pub returns-then-is_fast_step : goal.returns-then-is_fast_step
returns-then-is_fast_step c =
    record {
      within = λ h. run-batch _ _ _ _ _ c.batch_lines-lines.ensures _ h c.size_by-size.result
          c.size_by-size.ensures _ _ _ c.store_batch-behind.ensures
          (let n = c.if-at-fence.false in let m = c.if-fence-at.false in omega (arith, n)) (omega arith);
      without = λ no. absurd (no (c.is_fast_step.ensures.0 c.if-is_fast_step.true));
    }

pub returns : goal.returns
returns c = record { within = λ h. absurd (c.is_fast_step.ensures.1 c.if-is_fast_step.false h); without = λ no. (refl, refl) }
