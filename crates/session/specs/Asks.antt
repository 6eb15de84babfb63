-- What every call on an open register asks first: 2, 1, 8, by the record's phase and the lent lengths.
-- Assumes nothing.
use Rattle.std.specs.Prelude.{◌≡◌, Bool, List, ℕ, eqb, Result, Ok, Err}
use Rattle.std.proofs.Math.Option.{Option, none, some}
use Rattle.spec.specs.Basics.{pick, both, either}
use Rattle.spec.specs.Machine.{gate, read_gate}
use Rattle.session.specs.declared.Control.{Control}
use Rattle.session.specs.declared.Setup.{Setup}
use Rattle.spec.specs.declared.Refusal.{Refusal}
use Rattle.spec.specs.declared.Refusal.TheVariants as N
use Rattle.session.specs.State.{state_at}
use Rattle.session.specs.declared.Phase.{Phase}
use Rattle.session.specs.declared.Phase.TheVariants as P

-- the phase that a number stands for
abbrev pub phase_of : ℕ → Phase
phase_of n =
    pick (eqb n 1) P.Rest
    (pick (eqb n 2) P.Staging
    (pick (eqb n 3) P.Commit
    (pick (eqb n 4) P.Format
    (pick (eqb n 5) P.Reformat
    (pick (eqb n 6) P.Cleaning
    P.Closed)))))

-- the phases in which a call is unfinished on an open register
abbrev pub begun_at : ℕ → Bool
begun_at phase = either (eqb phase 2) (either (eqb phase 3) (either (eqb phase 5) (eqb phase 6)))

-- the phases in which look-up answers: at rest, in a staging, a commit and a cleaning
abbrev pub read_at : ℕ → Bool
read_at phase = either (eqb phase 1) (either (eqb phase 2) (either (eqb phase 3) (eqb phase 6)))

abbrev pub read_for : ℕ → Bool → Option Refusal
read_for phase same =
    pick (read_at phase) (pick same none (some N.ImageLength))
    (pick (eqb phase 5) (pick same (some N.Unfinished) (some N.ImageLength))
    (some N.NotOpen))

-- by the phase, and whether the lengths are those at the opening
abbrev pub gate_for : ℕ → Bool → Option Refusal
gate_for phase same =
    pick (eqb phase 1) (pick same none (some N.ImageLength))
    (pick (begun_at phase) (pick same (some N.Unfinished) (some N.ImageLength))
    (some N.NotOpen))

-- 2 for a phase with nothing open, and else another refusal
abbrev pub closed_or : ℕ → Refusal → Refusal
closed_or phase n = pick (either (eqb phase 1) (begun_at phase)) n N.NotOpen

abbrev pub same_lengths : Setup → ℕ → ℕ → Bool
same_lengths k bytes words = both (eqb k.image bytes) (eqb k.table words)

-- a refusal, or none
abbrev pub gate_of : Result (Unit {0}) Refusal → Option Refusal
gate_of (Ok _) = none
gate_of (Err n) = some n

-- the answer is the definition's, whatever the buffer holds
pub record Asking (c : Control) (k : Setup) (bytes words : ℕ) (r : Result (Unit {0}) Refusal) : Type 0 where
  pub asked : (b : List ℕ) → gate (state_at c k b) bytes words ≡ gate_of r

-- the same of look-up
pub record ReadAsking (c : Control) (k : Setup) (bytes words : ℕ) (r : Result (Unit {0}) Refusal) : Type 0 where
  pub asked : (b : List ℕ) → read_gate (state_at c k b) bytes words ≡ gate_of r
