-- What reports say in numbers, and what they make of the image's words and of the medium.
-- Assumes nothing.
use Rattle.std.specs.Prelude.{Bool, List, [], ◌∷◌, ℕ, ◌+◌, set}
use Rattle.std.proofs.Math.Option.{Option, none, some}
use Rattle.std.proofs.Math.Seq.{slice}
use Rattle.spec.specs.Basics.{is_some}
use Rattle.spec.specs.Medium.{Action, Store, Flush, Fence, Medium, apply}
use Rattle.spec.specs.declared.Refusal.{Refusal}
use Rattle.spec.specs.declared.Refusal.TheVariants as N
use Rattle.spec.specs.declared.Report.{Report}
use Rattle.spec.specs.declared.Report.TheVariants as R

-- the numbers of the refusals
-- R41
abbrev pub number : Refusal → ℕ
number N.ImageLength = 1
number N.NotOpen = 2
number N.DirectoryWrong = 3
number N.EntryWrong = 4
number N.BlockWrong = 5
number N.TopsDisagree = 6
number N.TableFull = 7
number N.Unfinished = 8
number N.TooLong = 9
number N.BatchFull = 10
number N.KeyAbsent = 11
number N.VersionSpent = 12
number N.NoSpace = 13
number N.NothingStaged = 14
number N.BatchStaged = 15
number N.NotCleanable = 16
number N.OtherVersion = 17

-- the values of each case of a report: refused n, begun a, store w v, flush l, fence, end n, idle; for the answers
-- of calls that answer directly, the chunk chosen, and the part's first byte and length and its value's version.
abbrev pub numbers_of : Report → List ℕ
numbers_of (R.Refused n) = number n ∷ []
numbers_of (R.Begun a) = a ∷ []
numbers_of (R.Store w v) = w ∷ v ∷ []
numbers_of (R.Flush l) = l ∷ []
numbers_of R.Fence = []
numbers_of (R.End n) = n ∷ []
numbers_of R.Idle = []
numbers_of R.Opened = []
numbers_of R.Abandoned = []
numbers_of (R.Chosen c) = c ∷ []
numbers_of (R.Part a n v) = a ∷ n ∷ v ∷ []

-- What a report says: the action that was done, the refusal, where in the image the part lies that a look-up hands out.
-- What follows of a report goes by these.
abbrev pub action_of : Report → Option Action
action_of (R.Refused n) = none
action_of (R.Begun a) = none
action_of (R.Store w v) = some (Store w v)
action_of (R.Flush l) = some (Flush l)
action_of R.Fence = some Fence
action_of (R.End n) = none
action_of R.Idle = none
action_of R.Opened = none
action_of R.Abandoned = none
action_of (R.Chosen c) = none
action_of (R.Part a n v) = none

abbrev pub refusal_of : Report → Option Refusal
refusal_of (R.Refused n) = some n
refusal_of (R.Begun a) = none
refusal_of (R.Store w v) = none
refusal_of (R.Flush l) = none
refusal_of R.Fence = none
refusal_of (R.End n) = none
refusal_of R.Idle = none
refusal_of R.Opened = none
refusal_of R.Abandoned = none
refusal_of (R.Chosen c) = none
refusal_of (R.Part a n v) = none

abbrev pub place_of : Report → Option (ℕ × ℕ)
place_of (R.Refused n) = none
place_of (R.Begun a) = none
place_of (R.Store w v) = none
place_of (R.Flush l) = none
place_of R.Fence = none
place_of (R.End n) = none
place_of R.Idle = none
place_of R.Opened = none
place_of R.Abandoned = none
place_of (R.Chosen c) = none
place_of (R.Part a n v) = some (a, n)

abbrev pub sliced : Option (ℕ × ℕ) → List ℕ → Option (List ℕ)
sliced none bytes = none
sliced (some (a, n)) bytes = some (slice a (a + n) bytes)

abbrev pub part_in : Report → List ℕ → Option (List ℕ)
part_in r bytes = sliced (place_of r) bytes

-- what an action reports, and what a report says of the image's words and of the medium
abbrev pub as_report : Action → Report
as_report (Store w v) = R.Store w v
as_report (Flush l) = R.Flush l
as_report Fence = R.Fence

abbrev pub stored : Option Action → List ℕ → List ℕ
stored none ws = ws
stored (some (Store w v)) ws = set ws w v
stored (some (Flush l)) ws = ws
stored (some Fence) ws = ws

abbrev pub words_after : Report → List ℕ → List ℕ
words_after r ws = stored (action_of r) ws

abbrev pub run_words : List Action → List ℕ → List ℕ
run_words [] ws = ws
run_words (a ∷ rest) ws = run_words rest (words_after (as_report a) ws)

abbrev pub performed : Option Action → Medium → Medium
performed none m = m
performed (some a) m = apply a m

abbrev pub medium_after : Report → Medium → Medium
medium_after r m = performed (action_of r) m

abbrev pub is_refused : Report → Bool
is_refused r = is_some (refusal_of r)
