-- The calls as a machine without record or bytes: what each answers, by the words of the image and the state, and the
-- state that it leaves.
-- Assumes nothing.
use Rattle.std.specs.Prelude.{Bool, true, false, List, [], ◌∷◌, ℕ, suc, eqb, length}
use Rattle.std.proofs.Math.Option.{Option, none, some}
use Rattle.spec.specs.Basics.{pick, both, negate, is_empty}
use Rattle.spec.specs.Places.{base_power, chunks_in, size_allowed}
use Rattle.spec.specs.Header.{header_power}
use Rattle.spec.specs.Medium.{Action}
use Rattle.spec.specs.Log.{Entry}
use Rattle.spec.specs.Contents.{entries_in}
use Rattle.spec.specs.Opening.{Opening, Refused, Accepted, opening}
use Rattle.spec.specs.Actions.{format_of}
use Rattle.spec.specs.Basics.{Given}
use Rattle.std.specs.declared.option.Option.TheVariants as G
use Rattle.spec.specs.declared.Refusal.{Refusal}
use Rattle.spec.specs.declared.Refusal.TheVariants as N
use Rattle.spec.specs.declared.Report.{Report}
use Rattle.spec.specs.declared.Report.TheVariants as R
use Rattle.spec.specs.Reports.{is_refused, as_report}
use Rattle.spec.specs.Plans.{Task, Staging, Committing, Cleaning, Plan, Refuse, Begin, plan_put, plan_delete, plan_commit, plan_clean, chosen_chunk, read_by, look_up, planned, chosen_or}

-- a formatting is told the chunk power; a put and a delete may be told the version that they are for
pub data Call : Type 0 where
  Format : ℕ → Given → Given → Call
  Open : Call
  Put : Given → ℕ → List ℕ → Call
  Delete : Given → ℕ → Call
  Commit : Call
  Abandon : Call
  LookUp : ℕ → Call
  Choose : Call
  Clean : ℕ → Call
  Step : Call

-- what a call asks for: nothing of the record (a formatting, an opening), an open register with no call unfinished, an
-- open register that is not being formatted (look-up), or something begun (a step)
pub data Kind : Type 0 where
  ToFormat : Kind
  ToOpen : Kind
  ToWork : Kind
  ToRead : Kind
  ToStep : Kind

abbrev pub kind_of : Call → Kind
kind_of (Format p s c) = ToFormat
kind_of Open = ToOpen
kind_of (Put x k v) = ToWork
kind_of (Delete x k) = ToWork
kind_of Commit = ToWork
kind_of Abandon = ToWork
kind_of (LookUp k) = ToRead
kind_of Choose = ToWork
kind_of (Clean c) = ToWork
kind_of Step = ToStep

-- No register open; a register open with the staged items; a call unfinished with the actions still to come; a
-- formatting unfinished, begun on an open register or not. The numbers are the chunk power that the header said (none
-- of a formatting), the image's bytes and the table's words, at the opening or at the formatting's begin.
pub data State : Type 0 where
  Closed : State
  Rest : ℕ → ℕ → ℕ → List Entry → State
  Busy : ℕ → ℕ → ℕ → List Entry → Task → List Action → State
  Formatting : Bool → ℕ → ℕ → List Action → State

-- 2, 1, 8: what every call on an open register asks first, lent so many bytes and a table of so many words
-- R38
abbrev pub gate : State → ℕ → ℕ → Option Refusal
gate Closed bytes table = some N.NotOpen
gate (Rest p b t items) bytes table = pick (both (eqb b bytes) (eqb t table)) none (some N.ImageLength)
gate (Busy p b t items task rest) bytes table = pick (both (eqb b bytes) (eqb t table)) (some N.Unfinished) (some N.ImageLength)
gate (Formatting false b t rest) bytes table = some N.NotOpen
gate (Formatting true b t rest) bytes table = pick (both (eqb b bytes) (eqb t table)) (some N.Unfinished) (some N.ImageLength)

-- 2, 1, 8: what look-up asks first; a call unfinished on the open register, but for a formatting, is no refusal
-- R38
abbrev pub read_gate : State → ℕ → ℕ → Option Refusal
read_gate Closed bytes table = some N.NotOpen
read_gate (Rest p b t items) bytes table = pick (both (eqb b bytes) (eqb t table)) none (some N.ImageLength)
read_gate (Busy p b t items task rest) bytes table = pick (both (eqb b bytes) (eqb t table)) none (some N.ImageLength)
read_gate (Formatting false b t rest) bytes table = some N.NotOpen
read_gate (Formatting true b t rest) bytes table = pick (both (eqb b bytes) (eqb t table)) (some N.Unfinished) (some N.ImageLength)

-- the words that look-up reads, of the image's words
-- R88
abbrev pub read_words : State → List ℕ → List ℕ
read_words Closed ws = ws
read_words (Rest p b t items) ws = ws
read_words (Busy p b t items task rest) ws = read_by task rest ws
read_words (Formatting o b t rest) ws = ws

abbrev pub items_of : State → List Entry
items_of Closed = []
items_of (Rest p b t items) = items
items_of (Busy p b t items task rest) = items
items_of (Formatting o b t rest) = []

-- the chunk power; it decides nothing with no register open
-- R90
abbrev pub state_power : State → ℕ
state_power Closed = base_power
state_power (Rest p b t items) = p
state_power (Busy p b t items task rest) = p
state_power (Formatting o b t rest) = base_power

abbrev pub is_unfinished : State → Bool
is_unfinished Closed = false
is_unfinished (Rest p b t items) = false
is_unfinished (Busy p b t items task rest) = true
is_unfinished (Formatting o b t rest) = true

abbrev pub is_open : State → Bool
is_open Closed = false
is_open (Rest p b t items) = true
is_open (Busy p b t items task rest) = true
is_open (Formatting o b t rest) = o

-- The plan of a call on an open register of chunks of 2^p bytes: an image of so many bytes whose words are ws, a table
-- of so many words.
-- R31
abbrev pub plan_of : ℕ → Call → List Entry → List ℕ → ℕ → ℕ → Option Plan
plan_of p (Format q s c) items ws bytes table = none
plan_of p Open items ws bytes table = none
plan_of p (Put x k v) items ws bytes table = some (plan_put p (chunks_in p bytes) ws table (entries_in p (chunks_in p bytes) ws) items x k v)
plan_of p (Delete x k) items ws bytes table = some (plan_delete table (entries_in p (chunks_in p bytes) ws) items x k)
plan_of p Commit items ws bytes table = some (plan_commit p (chunks_in p bytes) ws items)
plan_of p Abandon items ws bytes table = none
plan_of p (LookUp k) items ws bytes table = none
plan_of p Choose items ws bytes table = none
plan_of p (Clean c) items ws bytes table = some (plan_clean p (chunks_in p bytes) ws (entries_in p (chunks_in p bytes) ws) items c)
plan_of p Step items ws bytes table = none

-- R31
abbrev pub begun : Plan → State → State
begun (Refuse n) σ = σ
begun (Begin items task acts) Closed = Closed
begun (Begin items task acts) (Rest p b t before) = Busy p b t items task acts
begun (Begin items task acts) (Busy p b t before task' rest) = Busy p b t before task' rest
begun (Begin items task acts) (Formatting o b t rest) = Formatting o b t rest

-- the answer behind the gate
abbrev pub gated : Option Refusal → Report → Report
gated none r = r
gated (some n) r = R.Refused n

abbrev pub opened : Opening → Report
opened (Refused n) = R.Refused n
opened (Accepted es) = R.Opened

-- R23, R29
abbrev pub opened_state : Opening → ℕ → ℕ → ℕ → State
opened_state (Refused n) p bytes table = Closed
opened_state (Accepted es) p bytes table = Rest p bytes table []

-- format, told the chunk power: 1 (another power, or a length not allowed for it), 8
-- R40
abbrev pub format_answer : ℕ → Given → Given → State → ℕ → Report
format_answer p s c σ bytes =
    pick (size_allowed p bytes) (pick (is_unfinished σ) (R.Refused N.Unfinished) (R.Begun (length (format_of p (chunks_in p bytes) s c)))) (R.Refused N.ImageLength)

-- R31, R90
abbrev pub format_state : ℕ → Given → Given → State → ℕ → ℕ → State
format_state p s c σ bytes table =
    pick (size_allowed p bytes) (pick (is_unfinished σ) σ (Formatting (is_open σ) bytes table (format_of p (chunks_in p bytes) s c))) σ

-- stepping: idle, else 1 alone; the next action, or the end with its count
-- R59
abbrev pub count_of : Task → ℕ
count_of Staging = 0
count_of (Committing olds) = 0
count_of (Cleaning n olds) = n

abbrev pub next_report : ℕ → List Action → Report
next_report n [] = R.End n
next_report n (a ∷ rest) = as_report a

-- R32, R40
abbrev pub step_answer : State → ℕ → ℕ → Report
step_answer Closed bytes table = R.Idle
step_answer (Rest p b t items) bytes table = R.Idle
step_answer (Busy p b t items task rest) bytes table = pick (both (eqb b bytes) (eqb t table)) (next_report (count_of task) rest) (R.Refused N.ImageLength)
step_answer (Formatting o b t rest) bytes table = pick (both (eqb b bytes) (eqb t table)) (next_report 0 rest) (R.Refused N.ImageLength)

-- the staged items when a call has ended: a commit's have joined the register
-- R54
abbrev pub items_then : Task → List Entry → List Entry
items_then Staging items = items
items_then (Committing olds) items = []
items_then (Cleaning n olds) items = items

-- R31, R44
abbrev pub stepped : State → State
stepped Closed = Closed
stepped (Rest p b t items) = Rest p b t items
stepped (Busy p b t items task []) = Rest p b t (items_then task items)
stepped (Busy p b t items task (a ∷ rest)) = Busy p b t items task rest
stepped (Formatting o b t []) = Closed
stepped (Formatting o b t (a ∷ rest)) = Formatting o b t rest

-- THE ANSWER of a call, by the state, the image's words and bytes, and the table's words
abbrev pub plan_answer : Option Plan → Report
plan_answer none = R.Idle
plan_answer (some q) = planned q

-- R36, R55
abbrev pub answer : Call → State → List ℕ → ℕ → ℕ → Report
answer (Format p s c) σ ws bytes table = format_answer p s c σ bytes
answer Open σ ws bytes table = opened (opening bytes ws table)
answer (Put x k v) σ ws bytes table = gated (gate σ bytes table) (plan_answer (plan_of (state_power σ) (Put x k v) (items_of σ) ws bytes table))
answer (Delete x k) σ ws bytes table = gated (gate σ bytes table) (plan_answer (plan_of (state_power σ) (Delete x k) (items_of σ) ws bytes table))
answer Commit σ ws bytes table = gated (gate σ bytes table) (plan_answer (plan_of (state_power σ) Commit (items_of σ) ws bytes table))
answer Abandon σ ws bytes table = gated (gate σ bytes table) (pick (is_empty (items_of σ)) (R.Refused N.NothingStaged) R.Abandoned)
answer (LookUp k) σ ws bytes table = gated (read_gate σ bytes table) (look_up (read_words σ ws) (entries_in (state_power σ) (chunks_in (state_power σ) bytes) (read_words σ ws)) k)
answer Choose σ ws bytes table = gated (gate σ bytes table) (chosen_or (chosen_chunk (state_power σ) (chunks_in (state_power σ) bytes) ws (entries_in (state_power σ) (chunks_in (state_power σ) bytes) ws)))
answer (Clean c) σ ws bytes table = gated (gate σ bytes table) (plan_answer (plan_of (state_power σ) (Clean c) (items_of σ) ws bytes table))
answer Step σ ws bytes table = step_answer σ bytes table

-- the part of the answer that the state and the lengths alone decide: 2, 1 and 8; of a step, idle and 1
abbrev pub refused_by : Option Refusal → Option Report
refused_by none = none
refused_by (some n) = some (R.Refused n)

abbrev pub step_barred : State → ℕ → ℕ → Option Report
step_barred Closed bytes table = some R.Idle
step_barred (Rest p b t items) bytes table = some R.Idle
step_barred (Busy p b t items task rest) bytes table = pick (both (eqb b bytes) (eqb t table)) none (some (R.Refused N.ImageLength))
step_barred (Formatting o b t rest) bytes table = pick (both (eqb b bytes) (eqb t table)) none (some (R.Refused N.ImageLength))

abbrev pub barred_by : Kind → State → ℕ → ℕ → Option Report
barred_by ToFormat σ bytes table = none
barred_by ToOpen σ bytes table = none
barred_by ToWork σ bytes table = refused_by (gate σ bytes table)
barred_by ToRead σ bytes table = refused_by (read_gate σ bytes table)
barred_by ToStep σ bytes table = step_barred σ bytes table

abbrev pub barred : Call → State → ℕ → ℕ → Option Report
barred k σ bytes table = barred_by (kind_of k) σ bytes table

-- THE STATE that a call leaves: a refused call, but for an opening, leaves the state as it was
-- R55
abbrev pub emptied : State → State
emptied Closed = Closed
emptied (Rest p b t items) = Rest p b t []
emptied (Busy p b t items task rest) = Busy p b t items task rest
emptied (Formatting o b t rest) = Formatting o b t rest

abbrev pub plan_state : Option Plan → State → State
plan_state none σ = σ
plan_state (some q) σ = begun q σ

abbrev pub change : Call → State → List ℕ → ℕ → ℕ → State
change (Format p s c) σ ws bytes table = format_state p s c σ bytes table
change Open σ ws bytes table = opened_state (opening bytes ws table) (header_power ws) bytes table
change (Put x k v) σ ws bytes table = plan_state (plan_of (state_power σ) (Put x k v) (items_of σ) ws bytes table) σ
change (Delete x k) σ ws bytes table = plan_state (plan_of (state_power σ) (Delete x k) (items_of σ) ws bytes table) σ
change Commit σ ws bytes table = plan_state (plan_of (state_power σ) Commit (items_of σ) ws bytes table) σ
change Abandon σ ws bytes table = emptied σ
change (LookUp k) σ ws bytes table = σ
change Choose σ ws bytes table = σ
change (Clean c) σ ws bytes table = plan_state (plan_of (state_power σ) (Clean c) (items_of σ) ws bytes table) σ
change Step σ ws bytes table = stepped σ

abbrev pub is_opening : Kind → Bool
is_opening ToFormat = false
is_opening ToOpen = true
is_opening ToWork = false
is_opening ToRead = false
is_opening ToStep = false

-- R35, R36
unfoldable pub next : Call → State → List ℕ → ℕ → ℕ → State
next k σ ws bytes table =
    pick (both (is_refused (answer k σ ws bytes table)) (negate (is_opening (kind_of k)))) σ (change k σ ws bytes table)

-- the numbers that a call may refuse with, whatever memory holds, in the order in which they are asked; 17 only where a
-- version is named
-- R86
abbrev pub version_asked : Given → List Refusal → List Refusal
version_asked G.None rs = rs
version_asked (G.Some n) rs = N.OtherVersion ∷ rs

-- R37
abbrev pub refusals : Call → List Refusal
refusals (Format p s c) = N.ImageLength ∷ N.Unfinished ∷ []
refusals Open = N.ImageLength ∷ N.NotOpen ∷ N.DirectoryWrong ∷ N.EntryWrong ∷ N.BlockWrong ∷ N.TopsDisagree ∷ N.TableFull ∷ []
refusals (Put x k v) = N.NotOpen ∷ N.ImageLength ∷ N.Unfinished ∷ N.TooLong ∷ version_asked x (N.VersionSpent ∷ N.BatchFull ∷ N.TableFull ∷ N.NoSpace ∷ [])
refusals (Delete x k) = N.NotOpen ∷ N.ImageLength ∷ N.Unfinished ∷ N.KeyAbsent ∷ version_asked x (N.VersionSpent ∷ N.BatchFull ∷ N.TableFull ∷ [])
refusals Commit = N.NotOpen ∷ N.ImageLength ∷ N.Unfinished ∷ N.NothingStaged ∷ N.NoSpace ∷ []
refusals Abandon = N.NotOpen ∷ N.ImageLength ∷ N.Unfinished ∷ N.NothingStaged ∷ []
refusals (LookUp k) = N.NotOpen ∷ N.ImageLength ∷ N.Unfinished ∷ N.KeyAbsent ∷ []
refusals Choose = N.NotOpen ∷ N.ImageLength ∷ N.Unfinished ∷ N.NotCleanable ∷ []
refusals (Clean c) = N.NotOpen ∷ N.ImageLength ∷ N.Unfinished ∷ N.BatchStaged ∷ N.NotCleanable ∷ N.NoSpace ∷ []
refusals Step = N.ImageLength ∷ []

-- the steps that an unfinished call still takes: one for each action, and one that reports the end
abbrev pub steps_left : State → ℕ
steps_left Closed = 0
steps_left (Rest p b t items) = 0
steps_left (Busy p b t items task rest) = suc (length rest)
steps_left (Formatting o b t rest) = suc (length rest)
