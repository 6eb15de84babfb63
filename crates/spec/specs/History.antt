-- Demand 3: every list of calls and power cuts, on memory as the calls left it, and in the desk book.
-- What a call does in a world is `Called`, the very predicate that each public function ensures.
-- Assumes nothing.
use Rattle.std.specs.Prelude.{◌≡◌, Bool, true, false, List, [], ◌∷◌, ◌++◌, ℕ, ◌≤◌, eqb, length}
use Rattle.std.proofs.Math.Option.{Option, none, some}
use Rattle.spec.specs.Basics.{pick}
use Rattle.spec.specs.Words.{words_of, AreBytes}
use Rattle.spec.specs.Places.{chunks_in}
use Rattle.spec.specs.Header.{header_power}
use Rattle.spec.specs.Medium.{Medium, cut, settled_at, latest}
use Rattle.spec.specs.Contents.{Held, Absent, Value, contents}
use Rattle.spec.specs.Reports.{number, refusal_of, part_in, medium_after, is_refused}
use Rattle.spec.specs.Machine.{Kind, ToFormat, ToOpen, ToWork, ToRead, ToStep, kind_of, is_opening, Call, Format, Open, Put, Delete, Commit, Abandon, LookUp, Choose, Clean, Step, State}
use Rattle.spec.specs.Book.{Book, new_book, nothing, note, note_cut, note_open}
use Rattle.spec.specs.Contract.{Called}
use Rattle.spec.specs.Basics.{Given}
use Rattle.spec.specs.declared.Refusal.{Refusal}
use Rattle.spec.specs.declared.Refusal.TheVariants as N
use Rattle.spec.specs.declared.Report.{Report}
use Rattle.spec.specs.declared.Report.TheVariants as R

-- a call, or a power cut with the value that each word keeps
-- R70
pub data Event : Type 0 where
  Do : Call → Event
  Cut : (ℕ → ℕ) → Event

-- the record and the table that the last call left
pub record Lent (S : Type 0) : Type 0 where
  pub session : S
  pub table : List ℕ

-- The medium as the reports made it, the image's bytes as the calls left them, record and table (none after a
-- formatting or a cut: then an opening comes before any other call), whether a call begun has not ended, and the
-- table's length at the opening before.
pub record World (S : Type 0) : Type 0 where
  pub medium : Medium
  pub image : List ℕ
  pub lent : Option (Lent S)
  pub unfinished : Bool
  pub least : ℕ

-- what the reports tell of unfinished calls
abbrev pub unfinished_after : Report → Bool → Bool
unfinished_after (R.Refused n) u = u
unfinished_after (R.Begun a) u = true
unfinished_after (R.Store w v) u = u
unfinished_after (R.Flush l) u = u
unfinished_after R.Fence u = u
unfinished_after (R.End n) u = false
unfinished_after R.Idle u = u
unfinished_after R.Opened u = false
unfinished_after R.Abandoned u = u
unfinished_after (R.Chosen c) u = u
unfinished_after (R.Part a n v) u = u

-- WHAT MAY FOLLOW WHAT. An opening is lent any record, and any table no smaller than at the opening before, and comes
-- only when every call begun has ended; any other call gets record and table as the last call left them.
-- R70
abbrev pub SameLent : {S : Type 0} → Option (Lent S) → S → List ℕ → Type 0
SameLent none s table = ⊥
SameLent (some l) s table = (l.session ≡ s) × (l.table ≡ table)

module _ {S : Type 0} (Proper : S → Type 0) where
  -- R71
  abbrev pub MayOpen : World S → S → List ℕ → Type 0
  MayOpen w s table = (w.unfinished ≡ false) × (Proper s × (w.least ≤ length table))

  abbrev pub LendsBy : Kind → World S → S → List ℕ → Type 0
  LendsBy ToFormat w s table = SameLent w.lent s table
  LendsBy ToOpen w s table = MayOpen w s table
  LendsBy ToWork w s table = SameLent w.lent s table
  LendsBy ToRead w s table = SameLent w.lent s table
  LendsBy ToStep w s table = SameLent w.lent s table

  abbrev pub Lends : Call → World S → S → List ℕ → Type 0
  Lends k w s table = LendsBy (kind_of k) w s table

-- a formatting stands in the list only if refused; a value is bytes
-- R72
abbrev pub Stands : Call → Report → Type 0
Stands (Format p a b) r = is_refused r ≡ true
Stands Open r = Unit {0}
Stands (Put x k v) r = AreBytes v
Stands (Delete x k) r = Unit {0}
Stands Commit r = Unit {0}
Stands Abandon r = Unit {0}
Stands (LookUp k) r = Unit {0}
Stands Choose r = Unit {0}
Stands (Clean c) r = Unit {0}
Stands Step r = Unit {0}

-- what a look-up's answer shows of its key: the bytes, or absent where it is 11
abbrev pub shown_by : Option Refusal → Option (List ℕ) → Option Held
shown_by (some n) part = pick (eqb (number n) (number N.KeyAbsent)) (some Absent) none
shown_by none (some bytes) = some (Value bytes)
shown_by none none = none

abbrev pub shows : Report → List ℕ → Option Held
shows r image = shown_by (refusal_of r) (part_in r image)

-- The register that an image of so many bytes with these words means: for each key the bytes of its highest version, or
-- absent. The chunk power is the one that the header says.
abbrev pub meant_by : ℕ → List ℕ → ℕ → Held
meant_by bytes ws = contents (header_power ws) (chunks_in (header_power ws) bytes) ws

-- R77
abbrev pub meant : List ℕ → ℕ → Held
meant image = meant_by (length image) (words_of image)

-- the world after a call, and after a cut
abbrev pub least_after : Call → List ℕ → ℕ → ℕ
least_after k table n = pick (is_opening (kind_of k)) (length table) n

abbrev pub after_call : {S : Type 0} → Call → World S → S → List ℕ → List ℕ → Report → World S
after_call k w s' image' table' r = record {
  medium = medium_after r w.medium;
  image = image';
  lent = some (record { session = s'; table = table' });
  unfinished = unfinished_after r w.unfinished;
  least = least_after k table' w.least;
}

-- R70
abbrev pub after_cut : {S : Type 0} → World S → (ℕ → ℕ) → List ℕ → World S
after_cut w chooses image' = record { medium = settled_at (cut chooses w.medium); image = image'; lent = none; unfinished = false; least = w.least }

module _ {S : Type 0} (Proper : S → Type 0) (state_of : S → State) (Fits : S → List ℕ → List ℕ → Type 0) where
  -- look-up, whatever is asked, then gives this register
  -- R68, R78
  abbrev pub Shows : S → List ℕ → List ℕ → (ℕ → Held) → Type 0
  Shows s image table register =
      (k : ℕ) (s' : S) (table' : List ℕ) (r : Report) → Called Proper state_of Fits (LookUp k) s s' image image table table' r → shows r image ≡ some (register k)

  -- WHAT IS CLAIMED of a call's outcome, and of what comes then. Every opening succeeds, and look-up then gives the
  -- book's register; so does every look-up with no call unfinished.
  -- R68
  abbrev pub Opens : (World S → Book → Type 0) → World S → Book → S → List ℕ → List ℕ → Report → Type 0
  Opens Then w b s' image' table' r =
      (r ≡ R.Opened) × ((done : Bool) × (Shows s' image' table' (note_open done b).register × Then (after_call Open w s' image' table' r) (note_open done b)))

  -- R68
  abbrev pub Looks : ℕ → World S → Book → List ℕ → Report → Type 0
  Looks k w b image r = w.unfinished ≡ false → shows r image ≡ some (b.register k)

  abbrev pub Goes : Call → (World S → Book → Type 0) → World S → Book → S → List ℕ → List ℕ → Report → Type 0
  Goes k Then w b s' image' table' r = Then (after_call k w s' image' table' r) (note k r b)

  abbrev pub Ends : Call → (World S → Book → Type 0) → World S → Book → S → List ℕ → List ℕ → Report → Type 0
  Ends (Format p a c) Then w b s' image' table' r = Goes (Format p a c) Then w b s' image' table' r
  Ends Open Then w b s' image' table' r = Opens Then w b s' image' table' r
  Ends (Put x k v) Then w b s' image' table' r = Goes (Put x k v) Then w b s' image' table' r
  Ends (Delete x k) Then w b s' image' table' r = Goes (Delete x k) Then w b s' image' table' r
  Ends Commit Then w b s' image' table' r = Goes Commit Then w b s' image' table' r
  Ends Abandon Then w b s' image' table' r = Goes Abandon Then w b s' image' table' r
  Ends (LookUp k) Then w b s' image' table' r = Looks k w b image' r × Goes (LookUp k) Then w b s' image' table' r
  Ends Choose Then w b s' image' table' r = Goes Choose Then w b s' image' table' r
  Ends (Clean c) Then w b s' image' table' r = Goes (Clean c) Then w b s' image' table' r
  Ends Step Then w b s' image' table' r = Goes Step Then w b s' image' table' r

  -- an event: whatever the call answers and leaves, as its contract allows (an image is bytes); whatever image the cut
  -- leaves, by its picks
  abbrev pub Claim : Event → (World S → Book → Type 0) → World S → Book → Type 0
  Claim (Do k) Then w b =
      (s s' : S) (image' table table' : List ℕ) (r : Report) → Lends Proper k w s table → Called Proper state_of Fits k s s' w.image image' table table' r → AreBytes image' → Stands k r
      → Ends k Then w b s' image' table' r
  Claim (Cut chooses) Then w b =
      (image' : List ℕ) → AreBytes image' → words_of image' ≡ cut chooses w.medium → length image' ≡ length w.image → Then (after_cut w chooses image') (note_cut b)

  abbrev pub Faithful : List Event → World S → Book → Type 0
  Faithful [] w b = Unit {0}
  Faithful (e ∷ es) w b = Claim e (Faithful es) w b

  -- FIRST START: right after the reported end of a formatting that was begun on any medium, unfenced words included.
  -- `Stepped rs` are steps that report rs, from one medium, record, image and table to others.
  abbrev pub Stepped : List Report → Medium → S → List ℕ → List ℕ → Medium → S → List ℕ → List ℕ → Type 0
  Stepped [] m s image table m' s' image' table' = (m' ≡ m) × ((s' ≡ s) × ((image' ≡ image) × (table' ≡ table)))
  Stepped (r ∷ rs) m s image table m' s' image' table' =
      (s₁ : S) × ((image₁ : List ℕ) × ((table₁ : List ℕ) × (Called Proper state_of Fits Step s s₁ image image₁ table table₁ r
      × Stepped rs (medium_after r m) s₁ image₁ table₁ m' s' image' table')))

  abbrev pub world : Medium → List ℕ → Option (Lent S) → ℕ → World S
  world m image lent least = record { medium = m; image = image; lent = lent; unfinished = false; least = least }

  -- R69
  abbrev pub AfterFormat : List Event → Type 0
  AfterFormat events =
      (m m' : Medium) (s s₀ s' : S) (image image' table table₀ table' : List ℕ) (p : ℕ) (station centre : Given) (a n : ℕ) (rs : List Report)
      → words_of image ≡ latest m → Proper s
      → Called Proper state_of Fits (Format p station centre) s s₀ image image table table₀ (R.Begun a)
      → Stepped (rs ++ (R.End n ∷ [])) m s₀ image table₀ m' s' image' table' → AreBytes image'
      → Faithful events (world m' image' none 0) (new_book nothing)

  -- SECOND START: right after the opening that accepted an image in which each word has one possible value
  -- R69
  abbrev pub AfterOpening : List Event → Type 0
  AfterOpening events =
      (s s' : S) (image table table' : List ℕ) → AreBytes image → Proper s → Called Proper state_of Fits Open s s' image image table table' R.Opened
      → Faithful events (world (settled_at (words_of image)) image (some (record { session = s'; table = table' })) (length table'))
      (new_book (meant image))

  -- DEMAND 3, one claim over every list of calls and power cuts
  -- R62, R68
  abbrev pub Demand3 : Type 0
  Demand3 = (events : List Event) → AfterFormat events × AfterOpening events
