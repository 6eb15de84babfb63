-- DEMANDS 2 AND 3, a cut in a formatting, a reopening, NEVER STUCK and look-up in an unfinished call hold for any
-- implementation whose calls meet `Called`, with small chunks and with large ones. Nothing is asked of how it reads its
-- record, or of what record and table hold. The laws of the calls hold for chunks of 2^12 to 2^16 bytes, and are used
-- at 12 and 16, the powers that there are.
-- Assumes nothing.
use mathlib.Core.Path.{◌≡◌}
use mathlib.Core.Bool.{true}
use Prim.Native.Nat.{ℕ}
use mathlib.Core.List.{List}
use Rattle.spec.specs.Places.{is_power}
use Rattle.spec.specs.Machine.{State}
use Rattle.spec.specs.History.{Demand3}
use Rattle.spec.specs.Means.{Demand2}
use Rattle.spec.specs.FormatCut.{FormatCut, FormatCutAmong}
use Rattle.spec.specs.Reopening.{ReopenedAfter}
use Rattle.spec.specs.Unstuck.{NeverStuck}
use Rattle.spec.specs.Reprint.{Reprinted, AlwaysACut}
use Rattle.theory_base.proofs.Places.{power-bounds}
use Rattle.theory_plans.specs.Laws.{Laws}
use Rattle.theory_plans.proofs.Hold.{laws-hold}
use Rattle.theory_histories.proofs.Theorem.{demand3}
use Rattle.theory_histories.proofs.Means.{demand2}
use Rattle.theory_histories.proofs.Interrupted.{format-cut, format-cut-among}
use Rattle.theory_histories.proofs.Twins.{reopened-after}
use Rattle.theory_histories.proofs.NeverStuck.{never_stuck}
use Rattle.theory_histories.proofs.Reprint.{reprinted, always-a-cut}

-- at 12 and at 16
laws_at : (p : ℕ) → is_power p ≡ true → Laws p
laws_at p there = let b = power-bounds p there in laws-hold p b.0 b.1

module _ {S : Type 0} (Proper : S → Type 0) (state_of : S → State) (Fits : S → List ℕ → List ℕ → Type 0) where
  pub every-list : Demand3 Proper state_of Fits
  every-list = demand3 laws_at Proper state_of Fits

  pub every-meaning : Demand2 Proper state_of Fits
  every-meaning = demand2 laws_at Proper state_of Fits

  pub every-format-cut : FormatCut Proper state_of Fits
  every-format-cut = format-cut laws_at Proper state_of Fits

  pub every-format-cut-among : FormatCutAmong Proper state_of Fits
  every-format-cut-among = format-cut-among laws_at Proper state_of Fits

  -- a record that fits is one of its type
  pub every-reopening : ((s : S) (ws table : List ℕ) → Fits s ws table → Proper s) → ReopenedAfter Proper state_of Fits
  every-reopening proper = reopened-after Proper state_of Fits proper laws_at

  -- look-up in an unfinished call
  pub every-reprint : Reprinted Proper state_of Fits
  every-reprint = reprinted laws_at Proper state_of Fits

  pub every-cut-shown : AlwaysACut Proper state_of Fits
  every-cut-shown = always-a-cut laws_at Proper state_of Fits

  -- by the host's rule: no commit is begun while no chunk is free
  pub every-room : NeverStuck Proper state_of Fits
  every-room = never_stuck Proper state_of Fits
