-- Several steps taken in one call: those that store a word, as many as come next, and then one that stores none, whose
-- report is told.
-- Assumes nothing.
use Rattle.std.specs.Prelude.{◌≡◌, Bool, true, false, ℕ, zero, suc}
use Rattle.spec.specs.Machine.{Step}
use Rattle.spec.specs.declared.Report.{Report}
use Rattle.spec.specs.declared.Report.TheVariants as R
use Rattle.session.specs.Promise.{Memory, Does}

-- n steps that each store a word, and then one with this report
abbrev pub Ran : ℕ → (m m' : Memory) → Report → Type 0
Ran zero m m' r = Does Step m m' r
Ran (suc n) m m' r = (m₁ : Memory) × ((w : ℕ) × ((v : ℕ) × (Does Step m m₁ (R.Store w v) × Ran n m₁ m' r)))

abbrev pub is_store : Report → Bool
is_store (R.Refused n) = false
is_store (R.Begun a) = false
is_store (R.Store w v) = true
is_store (R.Flush l) = false
is_store R.Fence = false
is_store (R.End n) = false
is_store R.Idle = false
is_store R.Opened = false
is_store R.Abandoned = false
is_store (R.Chosen c) = false
is_store (R.Part a n v) = false

-- one step, whose report tells of no store
abbrev pub StepsOn : (m m' : Memory) → Report → Type 0
StepsOn m m' r = Does Step m m' r × (is_store r ≡ false)

-- some steps that each store a word, and then one with this report
abbrev pub Runs : (m m' : Memory) → Report → Type 0
Runs m m' r = (n : ℕ) × Ran n m m' r

-- the stores that come next, and then the action behind them, which is none and is told
abbrev pub RunsOn : (m m' : Memory) → Report → Type 0
RunsOn m m' r = Runs m m' r × (is_store r ≡ false)
