-- What staging answers, and a put by the length of its value.
-- Assumes nothing.
use Rattle.std.specs.Prelude.{◌≡◌, List, ℕ, ◌≤◌, ◌<◌, length}
use Rattle.spec.specs.Log.{max_in_log}
use Rattle.spec.specs.Machine.{Put}
use Rattle.session.specs.declared.Control.{Control}
use Rattle.spec.specs.declared.Report.{Report}
use Rattle.spec.specs.Basics.{Given}
use Rattle.spec.specs.declared.Refusal.{Refusal}
use Rattle.spec.specs.declared.Report.TheVariants as R
use Rattle.session.specs.State.{behind_all}
use Rattle.session.specs.Promise.{Memory, Does}
use Rattle.session.specs.declared.Stepped.{Stepped}
use Rattle.session.specs.Numbers.{staged_more}

-- what a staging answers: a refusal leaves the control, and an item more, with so many words and new keys in all,
-- begins a call with no action
abbrev pub refused_with : Control → Refusal → Stepped
refused_with c n = record { control = c; report = R.Refused n }

abbrev pub one_more : Control → ℕ → ℕ → Stepped
one_more c words fresh = record { control = staged_more behind_all words fresh c; report = R.Begun 0 }

-- A put where `Here` holds of the value's length; elsewhere nothing is done.
pub record PutWhere (Here : ℕ → Type 0) (named : Given) (key : ℕ) (v : List ℕ) (m m' : Memory) (r : Report) : Type 0 where
  pub within : Here (length v) → Does (Put named key v) m m' r
  pub without : (Here (length v) → ⊥) → (m' ≡ m) × (r ≡ R.Idle)

-- a value that goes into the log, and one that does not
abbrev pub Short : ℕ → Type 0
Short bytes = bytes ≤ max_in_log

abbrev pub Long : ℕ → Type 0
Long bytes = max_in_log < bytes
