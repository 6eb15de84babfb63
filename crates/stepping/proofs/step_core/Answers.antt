-- `stepping::step_core` meets its contract: idle where nothing is begun, 1 for other lengths.
-- Assumes nothing.
use native.Mathlib.Omega.{arith}
use Rattle.stepping.proofs.Shows as S
use Rattle.stepping.proofs.step_core.Goals as goal
use Rattle.stepping.proofs.step_core.Goals.{then-phase-lt-STAGING-via-then-phase-lt-STAGING, then-phase-lt-STAGING-via-else-phase-lt-STAGING+then-phase-gt-CLEANING}

pub returns-then-phase-lt-STAGING : goal.returns-then-phase-lt-STAGING
returns-then-phase-lt-STAGING c =
    elim c.then-phase-lt-STAGING.branch [
      | then-phase-lt-STAGING-via-then-phase-lt-STAGING w ↦ S.idles _ _ _ _ _ (λ l h. omega arith)
      | then-phase-lt-STAGING-via-else-phase-lt-STAGING+then-phase-gt-CLEANING w ↦ S.idles _ _ _ _ _ (λ l h. omega arith)
    ]

pub returns-then-setup-image : goal.returns-then-setup-image
returns-then-setup-image c = S.turned_down _ _ _ _ _ (omega arith) (omega arith) (λ e q. omega arith)
