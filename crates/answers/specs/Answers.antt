-- The numbers in which the exported calls give a report, and what it means that they tell one.
-- Assumes nothing.
use Rattle.std.specs.Prelude.{◌≡◌, Bool, ℕ, eqb, get_or, Result, Ok, Err}
use Rattle.std.proofs.Math.Option.{Option, none, some}
use Rattle.spec.specs.Basics.{pick, negate}
use Rattle.spec.specs.Reports.{number, numbers_of, refusal_of, place_of}
use Rattle.spec.specs.declared.Refusal.{Refusal}
use Rattle.spec.specs.declared.Report.{Report}
use Rattle.spec.specs.declared.Report.TheVariants as R
use Rattle.lookup.specs.Listing.{Listed}
use Rattle.answers.specs.declared.Answer.{Answer}

abbrev pub answer : ℕ → ℕ → ℕ → Answer
answer kind first second = record { kind = kind; first = first; second = second }

-- A report's kind, and its values as the rules give them (`Reports.numbers_of`), 0 where it has none; a part's
-- version is told by `VersionShown` alone.
abbrev pub kind_in : Report → ℕ
kind_in (R.Refused n) = 0
kind_in (R.Begun a) = 1
kind_in (R.Store w v) = 2
kind_in (R.Flush l) = 3
kind_in R.Fence = 4
kind_in (R.End n) = 5
kind_in R.Idle = 6
kind_in R.Opened = 7
kind_in R.Abandoned = 8
kind_in (R.Chosen c) = 9
kind_in (R.Part a n v) = 10

abbrev pub answer_of : Report → Answer
answer_of r = answer (kind_in r) (get_or (numbers_of r) 0 0) (get_or (numbers_of r) 1 0)

-- The numbers are those of a report of which P holds.
abbrev pub Encodes : (Report → Type 0) → Answer → Type 0
Encodes P a = (r : Report) × (P r × (a ≡ answer_of r))

-- A host marks a number as given by anything but 0.
abbrev pub is_given : ℕ → Bool
is_given mark = negate (eqb mark 0)

-- A look-up's numbers: 0 or the refusal's number; the first byte and the length of the part, 0 where there is none.
abbrev pub number_or : Option Refusal → ℕ
number_or none = 0
number_or (some n) = number n

abbrev pub number_in : Report → ℕ
number_in r = number_or (refusal_of r)

abbrev pub start_or : Option (ℕ × ℕ) → ℕ
start_or none = 0
start_or (some (a, n)) = a

abbrev pub start_in : Report → ℕ
start_in r = start_or (place_of r)

abbrev pub length_or : Option (ℕ × ℕ) → ℕ
length_or none = 0
length_or (some (a, n)) = n

abbrev pub length_in : Report → ℕ
length_in r = length_or (place_of r)

abbrev pub ShownBy : Report → ℕ → ℕ → ℕ → Type 0
ShownBy r number start length = (number ≡ number_in r) × ((start ≡ start_in r) × (length ≡ length_in r))

-- The numbers are those of a report of which P holds.
abbrev pub Shown : (Report → Type 0) → ℕ → ℕ → ℕ → Type 0
Shown P number start length = (r : Report) × (P r × ShownBy r number start length)

-- The same with the version of the value, 0 where there is none.
abbrev pub version_in : Report → ℕ
version_in (R.Refused n) = 0
version_in (R.Begun a) = 0
version_in (R.Store w v) = 0
version_in (R.Flush l) = 0
version_in R.Fence = 0
version_in (R.End n) = 0
version_in R.Idle = 0
version_in R.Opened = 0
version_in R.Abandoned = 0
version_in (R.Chosen c) = 0
version_in (R.Part a n v) = v

abbrev pub VersionShown : Report → ℕ → ℕ → ℕ → ℕ → Type 0
VersionShown r number start length version = ShownBy r number start length × (version ≡ version_in r)

abbrev pub ShownWith : (Report → Type 0) → ℕ → ℕ → ℕ → ℕ → Type 0
ShownWith P number start length version = (r : Report) × (P r × VersionShown r number start length version)

-- A listing's numbers: 0 or the refusal's number, and how many keys are present, 0 on a refusal.
abbrev pub CountedBy : Result ℕ Refusal → ℕ → ℕ → Type 0
CountedBy (Ok k) answer count = (answer ≡ 0) × (count ≡ k)
CountedBy (Err n) answer count = (answer ≡ number n) × (count ≡ 0)

abbrev pub CountTold : (Result ℕ Refusal → Type 0) → ℕ → ℕ → Type 0
CountTold P answer count = (r : Result ℕ Refusal) × (P r × CountedBy r answer count)

-- What is listed of a key, in numbers: 0 or the refusal's number; version, length, and 1 for a value in a block, 0 for
-- one in the log; 0 on a refusal.
abbrev pub bit : Bool → ℕ
bit b = pick b 1 0

abbrev pub ListedBy : Listed → ℕ → ℕ → ℕ → ℕ → Type 0
ListedBy (Ok x) answer version length block = (answer ≡ 0) × ((version ≡ x.version) × ((length ≡ x.length) × (block ≡ bit x.block)))
ListedBy (Err n) answer version length block = (answer ≡ number n) × ((version ≡ 0) × ((length ≡ 0) × (block ≡ 0)))

abbrev pub ListTold : (Listed → Type 0) → ℕ → ℕ → ℕ → ℕ → Type 0
ListTold P answer version length block = (r : Listed) × (P r × ListedBy r answer version length block)
