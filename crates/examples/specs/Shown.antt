-- What the tables show of a computation, as values that can be compared, and the row of a table.
-- Assumes nothing.
use Rattle.std.specs.Prelude.{Bool, List, [], ◌∷◌, map, ℕ, eqb}
use Rattle.spec.specs.Basics.{both, every, same_list}
use Rattle.spec.specs.Reports.{number}
use Rattle.spec.specs.declared.Report.{Report}
use Rattle.spec.specs.declared.Report.TheVariants as R

-- a kind, and its numbers
pub record Shown : Type 0 where
  pub kind : ℕ
  pub numbers : List ℕ

abbrev pub shown : ℕ → List ℕ → Shown
shown kind numbers = record { kind = kind; numbers = numbers }

abbrev pub same_shown : Shown → Shown → Bool
same_shown s t = both (eqb s.kind t.kind) (same_list s.numbers t.numbers)

abbrev pub Words : List ℕ → Shown
Words ws = shown 0 ws

abbrev pub Number : ℕ → Shown
Number n = shown 0 (n ∷ [])

-- turned down, by its number; not turned down
abbrev pub Refused : ℕ → Shown
Refused n = shown 1 (n ∷ [])

abbrev pub Accepted : Shown
Accepted = shown 2 []

-- where a value goes: into the log, into a block of so many units
abbrev pub InLog : Shown
InLog = shown 3 []

abbrev pub Units : ℕ → Shown
Units n = shown 4 (n ∷ [])

-- a call begun, of so many actions; its end, with its count
abbrev pub Begun : ℕ → Shown
Begun a = shown 5 (a ∷ [])

abbrev pub End : ℕ → Shown
End n = shown 9 (n ∷ [])

-- a step's store, flush and fence, and idle
abbrev pub Stored : ℕ → ℕ → Shown
Stored w v = shown 6 (w ∷ v ∷ [])

abbrev pub Flushed : ℕ → Shown
Flushed l = shown 7 (l ∷ [])

abbrev pub Fenced : Shown
Fenced = shown 8 []

abbrev pub Idle : Shown
Idle = shown 10 []

-- a row: what was computed, and what is right
pub record Row : Type 0 where
  pub computed : Shown
  pub right : Shown

infix 70 ◌is◌
abbrev pub ◌is◌ : Shown → Shown → Row
s is t = record { computed = s; right = t }

abbrev pub row_holds : Row → Bool
row_holds r = same_shown r.computed r.right

abbrev pub all_hold : List Row → Bool
all_hold rows = every (map row_holds rows)

-- a report: its case, and its numbers
abbrev pub shown_report : Report → Shown
shown_report (R.Refused n) = Refused (number n)
shown_report (R.Begun a) = Begun a
shown_report (R.Store w v) = Stored w v
shown_report (R.Flush l) = Flushed l
shown_report R.Fence = Fenced
shown_report (R.End n) = End n
shown_report R.Idle = Idle
shown_report R.Opened = Accepted
shown_report R.Abandoned = Accepted
shown_report (R.Chosen c) = Number c
shown_report (R.Part start length version) = Words (start ∷ length ∷ version ∷ [])
