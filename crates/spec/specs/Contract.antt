-- What every public call promises: `Called`, which the contracts cite and the histories are made of.
-- Assumes nothing.
use Rattle.std.specs.Prelude.{◌≡◌, ◌⊎◌, false, List, [], ◌∷◌, ◌++◌, map, ℕ, suc, ◌+◌, ◌*◌, ◌/◌, ◌≤◌, ◌<◌, length, drop, replicate, set}
use Rattle.std.proofs.Math.Option.{Option, none, some}
use Rattle.spec.specs.Words.{AreBytes, words_of}
use Rattle.spec.specs.Places.{chunks_in}
use Rattle.spec.specs.Header.{header_power}
use Rattle.spec.specs.Medium.{Action, Store, Flush, Fence}
use Rattle.spec.specs.Log.{Entry}
use Rattle.spec.specs.Reports.{action_of, part_in, as_report, is_refused}
use Rattle.spec.specs.Plans.{Staging, Committing, Cleaning, Olds, max_version}
use Rattle.spec.specs.Machine.{Kind, ToFormat, ToOpen, ToWork, ToRead, ToStep, kind_of, Call, Format, Open, Put, Delete, Commit, Abandon, LookUp, Choose, Clean, Step, State, Closed, Rest, Busy, Formatting, items_of, state_power, answer, next, barred, refusals, steps_left}
use Rattle.spec.specs.declared.Refusal.{Refusal}
use Rattle.spec.specs.declared.Report.{Report}
use Rattle.spec.specs.declared.Report.TheVariants as R

abbrev pub MemRefusal : Refusal → List Refusal → Type 0
MemRefusal x [] = ⊥
MemRefusal x (y ∷ ys) = (x ≡ y) ⊎ MemRefusal x ys

-- The report is the image's WHOLE change: of a store, one word; the bytes behind the last whole word, which belong to
-- no word, stay too.
abbrev pub odd_bytes : List ℕ → List ℕ
odd_bytes bytes = drop (8 * (length bytes / 8)) bytes

abbrev pub ChangedBy : Option Action → List ℕ → List ℕ → Type 0
ChangedBy none bytes bytes' = bytes' ≡ bytes
ChangedBy (some (Store w v)) bytes bytes' = (words_of bytes' ≡ set (words_of bytes) w v) × (length bytes' ≡ length bytes) × (odd_bytes bytes' ≡ odd_bytes bytes)
ChangedBy (some (Flush l)) bytes bytes' = bytes' ≡ bytes
ChangedBy (some Fence) bytes bytes' = bytes' ≡ bytes

-- R32, R35
abbrev pub Changed : Report → List ℕ → List ℕ → Type 0
Changed r bytes bytes' = ChangedBy (action_of r) bytes bytes'

-- an action at a place past the image: a word or a line that it does not have
abbrev pub PastBy : Option Action → List ℕ → Type 0
PastBy none bytes = ⊥
PastBy (some (Store w v)) bytes = length bytes ≤ 8 * w + 7
PastBy (some (Flush l)) bytes = length bytes ≤ 64 * l
PastBy (some Fence) bytes = ⊥

abbrev pub Past : Report → List ℕ → Type 0
Past r bytes = PastBy (action_of r) bytes

-- the bytes that a look-up hands out
abbrev pub or_empty : Option (List ℕ) → List ℕ
or_empty none = []
or_empty (some part) = part

-- R65
abbrev pub part_bytes : Report → List ℕ → List ℕ
part_bytes r bytes = or_empty (part_in r bytes)

-- Memory fits again. A refused formatting, which may be lent any record, leaves memory as it was.
abbrev pub AgainBy : Kind → Report → Type 0 → Type 0
AgainBy ToFormat r Fit = is_refused r ≡ false → Fit
AgainBy ToOpen r Fit = Fit
AgainBy ToWork r Fit = Fit
AgainBy ToRead r Fit = Fit
AgainBy ToStep r Fit = Fit

abbrev pub Again : Call → Report → Type 0 → Type 0
Again k r Fit = AgainBy (kind_of k) r Fit

-- ANY MEMORY AT ALL, by call: which answers the call has, and the state that it leaves. A step, an abandoning and a
-- formatting's begin are exact, whatever image and table hold.
abbrev pub Refuses : Report → Type 0
Refuses r = (n : Refusal) × (r ≡ R.Refused n)

-- begun, with the actions of such a task still to come, all of them
abbrev pub Begins : (List Action → State → Type 0) → State → Report → Type 0
Begins Of σ r = (acts : List Action) × (Of acts σ × (r ≡ R.Begun (length acts)))

abbrev pub StagesIn : ℕ → ℕ → ℕ → List Action → State → Type 0
StagesIn p b t acts σ = (items : List Entry) × (σ ≡ Busy p b t items Staging acts)

abbrev pub CommitsIn : ℕ → ℕ → ℕ → List Entry → List Action → State → Type 0
CommitsIn p b t items acts σ = (olds : Olds) × (σ ≡ Busy p b t items (Committing olds) acts)

abbrev pub CleansIn : ℕ → ℕ → ℕ → List Action → State → Type 0
CleansIn p b t acts σ = (n : ℕ) × ((olds : Olds) × (σ ≡ Busy p b t [] (Cleaning n olds) acts))

-- R37
abbrev pub Anyway : Call → (σ σ' : State) → (ws : List ℕ) → (bytes table : ℕ) → Report → Type 0
Anyway (Format p x y) σ σ' ws bytes table r = (r ≡ answer (Format p x y) σ ws bytes table) × (σ' ≡ next (Format p x y) σ ws bytes table)
Anyway Open σ σ' ws bytes table r = Refuses r ⊎ ((r ≡ R.Opened) × (σ' ≡ Rest (header_power ws) bytes table []))
Anyway (Put x k v) σ σ' ws bytes table r = Refuses r ⊎ Begins (StagesIn (state_power σ) bytes table) σ' r
Anyway (Delete x k) σ σ' ws bytes table r = Refuses r ⊎ Begins (StagesIn (state_power σ) bytes table) σ' r
Anyway Commit σ σ' ws bytes table r = Refuses r ⊎ Begins (CommitsIn (state_power σ) bytes table (items_of σ)) σ' r
Anyway Abandon σ σ' ws bytes table r = (r ≡ answer Abandon σ ws bytes table) × (σ' ≡ next Abandon σ ws bytes table)
Anyway (LookUp k) σ σ' ws bytes table r = Refuses r ⊎ ((a : ℕ) × ((n : ℕ) × ((v : ℕ) × ((r ≡ R.Part a n v) × ((a + n ≤ bytes) × (v ≤ max_version))))))
Anyway Choose σ σ' ws bytes table r = Refuses r ⊎ ((c : ℕ) × ((r ≡ R.Chosen c) × ((1 ≤ c) × (c < chunks_in (state_power σ) bytes))))
Anyway (Clean c) σ σ' ws bytes table r = Refuses r ⊎ Begins (CleansIn (state_power σ) bytes table) σ' r
Anyway Step σ σ' ws bytes table r = (r ≡ answer Step σ ws bytes table) × (σ' ≡ next Step σ ws bytes table)

-- the count at a call's end: 0 but for a cleaning. The calls that answer directly are never begun.
abbrev pub CountAt : Call → ℕ → Type 0
CountAt (Format p x y) n = n ≡ 0
CountAt Open n = ⊥
CountAt (Put x k v) n = n ≡ 0
CountAt (Delete x k) n = n ≡ 0
CountAt Commit n = n ≡ 0
CountAt Abandon n = ⊥
CountAt (LookUp k) n = ⊥
CountAt Choose n = ⊥
CountAt (Clean c) n = Unit {0}
CountAt Step n = ⊥

-- An implementation has records of a type S. It tells which of them are proper values of that type, reads one as a
-- state, and keeps record and table fitting the image's words: "memory as our calls left it". An opening and a
-- formatting ask no more of the record than that it is proper. To be believed is that every record which can be lent is
-- proper (of a record with an array: that it has the array's length), and nothing of the other two.
module _ {S : Type 0} (Proper : S → Type 0) (state_of : S → State) (Fits : S → List ℕ → List ℕ → Type 0) where
  abbrev pub ReadyBy : Kind → S → List ℕ → List ℕ → Type 0
  ReadyBy ToFormat s ws table = Proper s
  ReadyBy ToOpen s ws table = Proper s
  ReadyBy ToWork s ws table = Fits s ws table
  ReadyBy ToRead s ws table = Fits s ws table
  ReadyBy ToStep s ws table = Fits s ws table

  abbrev pub Ready : Call → S → List ℕ → List ℕ → Type 0
  Ready k s ws table = ReadyBy (kind_of k) s ws table

  -- on memory as our calls left it: the definition's answer, the definition's state, and memory fits again
  -- R29, R36
  pub record Exact (k : Call) (s s' : S) (bytes bytes' table table' : List ℕ) (r : Report) : Type 0 where
    pub answered : r ≡ answer k (state_of s) (words_of bytes) (length bytes) (length table)
    pub became : state_of s' ≡ next k (state_of s) (words_of bytes) (length bytes) (length table)
    pub fits : Again k r (Fits s' (words_of bytes') table')

  -- a refusal leaves record and table as they were; a refused opening leaves a record with nothing open and a table of
  -- zeros
  abbrev pub KeptBy : Kind → S → S → List ℕ → List ℕ → Type 0
  KeptBy ToFormat s s' table table' = (s' ≡ s) × (table' ≡ table)
  KeptBy ToOpen s s' table table' = (state_of s' ≡ Closed) × (table' ≡ replicate (length table) 0)
  KeptBy ToWork s s' table table' = (s' ≡ s) × (table' ≡ table)
  KeptBy ToRead s s' table table' = (s' ≡ s) × (table' ≡ table)
  KeptBy ToStep s s' table table' = (s' ≡ s) × (table' ≡ table)

  -- R29, R35
  abbrev pub Kept : Call → S → S → List ℕ → List ℕ → Type 0
  Kept k s s' table table' = KeptBy (kind_of k) s s' table table'

  -- an action's step: one step fewer is left; while a formatting is unfinished the table is as it was
  -- R44
  abbrev pub TableKept : State → List ℕ → List ℕ → Type 0
  TableKept Closed table table' = table' ≡ table
  TableKept (Rest p b t items) table table' = table' ≡ table
  TableKept (Busy p b t items task rest) table table' = Unit {0}
  TableKept (Formatting o b t rest) table table' = table' ≡ table

  -- R33
  abbrev pub Counted : S → S → List ℕ → List ℕ → Type 0
  Counted s s' table table' = (steps_left (state_of s) ≡ suc (steps_left (state_of s'))) × TableKept (state_of s) table table'

  -- what holds of an answer for any memory at all
  -- R33, R37
  abbrev pub Outcome : Call → S → S → List ℕ → List ℕ → Report → Type 0
  Outcome k s s' table table' (R.Refused n) = MemRefusal n (refusals k) × Kept k s s' table table'
  Outcome k s s' table table' (R.Begun a) = (steps_left (state_of s') ≡ suc a) × (table' ≡ table)
  Outcome k s s' table table' (R.Store w v) = Counted s s' table table'
  Outcome k s s' table table' (R.Flush l) = Counted s s' table table'
  Outcome k s s' table table' R.Fence = Counted s s' table table'
  Outcome k s s' table table' (R.End n) = Counted s s' table table' × (steps_left (state_of s') ≡ 0)
  Outcome k s s' table table' R.Idle = (s' ≡ s) × (table' ≡ table)
  Outcome k s s' table table' R.Opened = steps_left (state_of s') ≡ 0
  Outcome k s s' table table' R.Abandoned = (steps_left (state_of s') ≡ 0) × (table' ≡ table)
  Outcome k s s' table table' (R.Chosen c) = (s' ≡ s) × (table' ≡ table)
  Outcome k s s' table table' (R.Part a n v) = (s' ≡ s) × (table' ≡ table)

  -- what the record and the lengths alone decide, whatever the image and the table hold
  -- R37
  abbrev pub Barred : Call → S → List ℕ → List ℕ → Report → Type 0
  Barred k s bytes table r = (r' : Report) → barred k (state_of s) (length bytes) (length table) ≡ some r' → r ≡ r'

  -- what a call did: the record, the image's bytes and the table before and after, and the report
  -- R30
  pub record Called (k : Call) (s s' : S) (bytes bytes' table table' : List ℕ) (r : Report) : Type 0 where
    pub exact : Ready k s (words_of bytes) table → Exact k s s' bytes bytes' table table' r
    pub first : Barred k s bytes table r
    pub image : Changed r bytes bytes'
    pub sized : length table' ≡ length table
    pub outcome : Outcome k s s' table table' r
    pub anyway : Anyway k (state_of s) (state_of s') (words_of bytes) (length bytes) (length table) r

  -- EVERY BEGUN CALL ENDS AFTER ITS COUNT. Steps with these reports, each lent any image and any table of the lengths b
  -- and t: nothing is asked of what these hold, and they may be altered between the steps.
  abbrev pub SteppedOn : (b t : ℕ) → S → List Report → Type 0
  SteppedOn b t s [] = Unit {0}
  SteppedOn b t s (r ∷ rs) =
      (s' : S) × ((bytes : List ℕ) × ((bytes' : List ℕ) × ((table : List ℕ) × ((table' : List ℕ)
      × ((length bytes ≡ b) × ((length table ≡ t) × (Called Step s s' bytes bytes' table table' r × SteppedOn b t s' rs)))))))

  -- From a call that was begun with a actions, whichever it is and whatever it was lent: actions and a count are fixed
  -- there, and the next a + 1 steps report those a actions, in order, and then the end with that count.
  -- R33
  abbrev pub Ends : Type 0
  Ends = (k : Call) (s s' : S) (bytes bytes' table table' : List ℕ) (a : ℕ) → Called k s s' bytes bytes' table table' (R.Begun a)
      → (acts : List Action) × ((n : ℕ) × ((length acts ≡ a) × (CountAt k n
      × ((rs : List Report) → SteppedOn (length bytes) (length table) s' rs → length rs ≡ suc a → rs ≡ map as_report acts ++ (R.End n ∷ [])))))

  -- PAST THE IMAGE NOTHING CHANGES: an altered record may have a step report a store or flush at a place that the lent
  -- image does not have, and then no byte of it is another.
  -- R37
  abbrev pub PastImage : Type 0
  PastImage = (k : Call) (s s' : S) (bytes bytes' table table' : List ℕ) (r : Report)
      → Called k s s' bytes bytes' table table' r → AreBytes bytes → AreBytes bytes' → Past r bytes → bytes' ≡ bytes
