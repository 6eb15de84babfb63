-- A CLEANING IS FIXED AT ITS BEGIN: from its accepted begin on the steps report just the actions fixed there, and the
-- end the count fixed there, whatever image and table of the same lengths are lent to each step.
-- Assumes nothing.
use Rattle.std.specs.Prelude.{◌≡◌, List, [], ◌∷◌, ◌++◌, map, ℕ, suc, ◌≤◌, length, take}
use Rattle.std.proofs.Math.Option.{some}
use Rattle.spec.specs.Words.{words_of}
use Rattle.spec.specs.Medium.{Action}
use Rattle.spec.specs.Reports.{as_report}
use Rattle.spec.specs.Plans.{Olds, Cleaning, Begin}
use Rattle.spec.specs.Machine.{Clean, State, items_of, state_power, plan_of}
use Rattle.spec.specs.Contract.{Called, SteppedOn}
use Rattle.spec.specs.declared.Report.{Report}
use Rattle.spec.specs.declared.Report.TheVariants as R

-- what the steps of a call with these actions and this count report, to the end
abbrev pub all_reports : List Action → ℕ → List Report
all_reports acts count = map as_report acts ++ (R.End count ∷ [])

module _ {S : Type 0} (Proper : S → Type 0) (state_of : S → State) (Fits : S → List ℕ → List ℕ → Type 0) where
  -- the cleaning of chunk c, begun on the record s with these bytes and this table, which left the record s' and said
  -- `a` actions
  pub record FixedAt (c : ℕ) (s s' : S) (bytes table : List ℕ) (a : ℕ) : Type 0 where
    pub acts : List Action
    pub count : ℕ
    pub olds : Olds
    pub long : length acts ≡ a
    -- steps on any images and tables of these lengths: so far as they go, and to the end
    pub so_far : (rs : List Report) → SteppedOn Proper state_of Fits (length bytes) (length table) s' rs → length rs ≤ suc a → rs ≡ take (length rs) (all_reports acts count)
    pub whole : (rs : List Report) → SteppedOn Proper state_of Fits (length bytes) (length table) s' rs → length rs ≡ suc a → rs ≡ all_reports acts count
    -- on memory as our calls left it they are the plan's
    pub planned : Fits s (words_of bytes) table
        → plan_of (state_power (state_of s)) (Clean c) (items_of (state_of s)) (words_of bytes) (length bytes) (length table) ≡ some (Begin [] (Cleaning count olds) acts)

  -- R63
  abbrev pub Fixed : Type 0
  Fixed = (c : ℕ) (s s' : S) (bytes bytes' table table' : List ℕ) (a : ℕ) → Called Proper state_of Fits (Clean c) s s' bytes bytes' table table' (R.Begun a) → FixedAt c s s' bytes table a
