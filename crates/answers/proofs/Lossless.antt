-- Nothing of a report is lost in its three numbers but for a part's version, which a look-up tells apart from them: the
-- report can be read back from numbers and version.
-- Assumes nothing.
use mathlib.Core.Path.{◌≡◌, refl, sym, ap, ◌∙◌}
use mathlib.Core.List.{List, [], ◌∷◌}
use Prim.Native.Nat.{ℕ, zero, suc, ◌-◌}
use Rattle.spec.specs.Reports.{number}
use Rattle.spec.specs.declared.Refusal.{Refusal}
use Rattle.spec.specs.declared.Refusal.TheVariants as N
use Rattle.spec.specs.declared.Report.{Report}
use Rattle.spec.specs.declared.Report.TheVariants as R
use Rattle.answers.specs.declared.Answer.{Answer}
use Rattle.answers.specs.Answers.{answer_of, version_in}

abbrev nth : {A : Type 0} → A → List A → ℕ → A
nth d [] i = d
nth d (x ∷ xs) zero = x
nth d (x ∷ xs) (suc i) = nth d xs i

-- the refusal of a number
abbrev refusal_of : ℕ → Refusal
refusal_of n =
    nth N.OtherVersion
    (N.ImageLength
    ∷ N.NotOpen
    ∷ N.DirectoryWrong
    ∷ N.EntryWrong
    ∷ N.BlockWrong
    ∷ N.TopsDisagree
    ∷ N.TableFull
    ∷ N.Unfinished
    ∷ N.TooLong
    ∷ N.BatchFull
    ∷ N.KeyAbsent
    ∷ N.VersionSpent
    ∷ N.NoSpace
    ∷ N.NothingStaged
    ∷ N.BatchStaged
    ∷ N.NotCleanable
    ∷ [])
    (n - 1)

-- the report of a kind, two values and a version
abbrev report_of : Answer → ℕ → Report
report_of a version =
    nth R.Idle
    (R.Refused (refusal_of a.first)
    ∷ R.Begun a.first
    ∷ R.Store a.first a.second
    ∷ R.Flush a.first
    ∷ R.Fence
    ∷ R.End a.first
    ∷ R.Idle
    ∷ R.Opened
    ∷ R.Abandoned
    ∷ R.Chosen a.first
    ∷ R.Part a.first a.second version
    ∷ [])
    a.kind

refusal-read : (n : Refusal) → refusal_of (number n) ≡ n
refusal-read N.ImageLength = refl
refusal-read N.NotOpen = refl
refusal-read N.DirectoryWrong = refl
refusal-read N.EntryWrong = refl
refusal-read N.BlockWrong = refl
refusal-read N.TopsDisagree = refl
refusal-read N.TableFull = refl
refusal-read N.Unfinished = refl
refusal-read N.TooLong = refl
refusal-read N.BatchFull = refl
refusal-read N.KeyAbsent = refl
refusal-read N.VersionSpent = refl
refusal-read N.NoSpace = refl
refusal-read N.NothingStaged = refl
refusal-read N.BatchStaged = refl
refusal-read N.NotCleanable = refl
refusal-read N.OtherVersion = refl

pub report-read : (r : Report) → report_of (answer_of r) (version_in r) ≡ r
report-read (R.Refused n) = ap R.Refused (refusal-read n)
report-read (R.Begun a) = refl
report-read (R.Store w v) = refl
report-read (R.Flush l) = refl
report-read R.Fence = refl
report-read (R.End n) = refl
report-read R.Idle = refl
report-read R.Opened = refl
report-read R.Abandoned = refl
report-read (R.Chosen c) = refl
report-read (R.Part a n v) = refl

-- Two reports with the same numbers and version are the same.
pub answer-injective : (r r' : Report) → answer_of r ≡ answer_of r' → version_in r ≡ version_in r' → r ≡ r'
answer-injective r r' e v = sym (report-read r) ∙ ap (λ (a : Answer). report_of a (version_in r)) e ∙ ap (report_of (answer_of r')) v ∙ report-read r'
