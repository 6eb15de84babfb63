-- Never stuck: a register whose host begins a commit only while a free chunk stands can always be cleaned on, whatever
-- power cuts come. The claim goes over every list of calls and power cuts, as demand 3 does.
-- Assumes nothing.
use Rattle.std.specs.Prelude.{◌≡◌, ◌⊎◌, false, List, [], ◌∷◌, ◌++◌, ℕ, ◌≤◌, ◌<◌, length}
use Rattle.std.proofs.Math.Option.{none, some}
use Rattle.spec.specs.Words.{words_of, AreBytes}
use Rattle.spec.specs.Places.{chunks_in}
use Rattle.spec.specs.Header.{header_power}
use Rattle.spec.specs.Medium.{Medium, Action, run, cut, settled_at, latest}
use Rattle.spec.specs.Directory.{size_of, free_chunks}
use Rattle.spec.specs.Contents.{entries_in, kept_in}
use Rattle.spec.specs.Reports.{is_refused}
use Rattle.spec.specs.Plans.{Olds, old_of, Cleaning, Begin, free, plan_clean, chosen_chunk}
use Rattle.spec.specs.Machine.{Call, Format, Open, Put, Delete, Commit, Abandon, LookUp, Choose, Clean, Step, State}
use Rattle.spec.specs.Contract.{Called}
use Rattle.spec.specs.History.{Event, Do, Cut, World, Lends, Stands, unfinished_after, after_call, after_cut, Stepped, world}
use Rattle.spec.specs.Basics.{Given}
use Rattle.spec.specs.declared.Report.{Report}
use Rattle.spec.specs.declared.Report.TheVariants as R

-- a free chunk stands, as the directory's words tell
abbrev pub FreeStands : ℕ → ℕ → List ℕ → Type 0
FreeStands p n ws = 1 ≤ length (free_chunks p n ws)

-- ROOMY: some chunk is free, or a log chunk of which cleaning copies nothing (a free chunk has no entry to copy)
abbrev pub Roomy : ℕ → ℕ → List ℕ → Type 0
Roomy p n ws = (c : ℕ) × ((1 ≤ c) × ((c < n) × ((size_of p ws c ≡ 0) × (kept_in p c (entries_in p n ws) ≡ []))))

-- choosing names a chunk, and cleaning it is accepted, copies nothing and has the three actions of the freeing alone
abbrev pub Freeable : ℕ → ℕ → List ℕ → Type 0
Freeable p n ws = (c : ℕ) × ((chosen_chunk p n ws (entries_in p n ws) ≡ some c) × (plan_clean p n ws (entries_in p n ws) [] c ≡ Begin [] (Cleaning 0 (old_of ws c ∷ [])) (free c ws)))

-- whatever chunk choosing names, cleaning it is accepted, never 13, and a free chunk stands when its actions are done
abbrev pub Cleanable : ℕ → ℕ → List ℕ → Type 0
Cleanable p n ws =
    (c : ℕ) → chosen_chunk p n ws (entries_in p n ws) ≡ some c
    → (count : ℕ) × ((olds : Olds) × ((acts : List Action) × ((plan_clean p n ws (entries_in p n ws) [] c ≡ Begin [] (Cleaning count olds) acts) × FreeStands p n (latest (run acts (settled_at ws))))))

-- NOT STUCK: a free chunk stands, or choosing names one that cleaning only frees; and cleaning takes what choosing
-- names
-- R83
abbrev pub Unstuck : ℕ → ℕ → List ℕ → Type 0
Unstuck p n ws = (FreeStands p n ws ⊎ Freeable p n ws) × Cleanable p n ws

-- of an image of bytes, by the chunk power that its header says
abbrev pub InImage : (ℕ → ℕ → List ℕ → Type 0) → List ℕ → Type 0
InImage P image = P (header_power (words_of image)) (chunks_in (header_power (words_of image)) (length image)) (words_of image)

abbrev pub FreeIn : List ℕ → Type 0
FreeIn image = InImage FreeStands image

abbrev pub UnstuckIn : List ℕ → Type 0
UnstuckIn image = InImage Unstuck image

module _ {S : Type 0} (Proper : S → Type 0) (state_of : S → State) (Fits : S → List ℕ → List ℕ → Type 0) where
  -- THE HOST'S RULE: a commit that is accepted was begun while a free chunk stood. Of the other calls nothing is asked.
  -- R83
  abbrev pub Obeys : Call → World S → Report → Type 0
  Obeys (Format p a c) w r = Unit {0}
  Obeys Open w r = Unit {0}
  Obeys (Put x k v) w r = Unit {0}
  Obeys (Delete x k) w r = Unit {0}
  Obeys Commit w r = is_refused r ≡ false → FreeIn w.image
  Obeys Abandon w r = Unit {0}
  Obeys (LookUp k) w r = Unit {0}
  Obeys Choose w r = Unit {0}
  Obeys (Clean c) w r = Unit {0}
  Obeys Step w r = Unit {0}

  -- from here on, until the power is cut, a free chunk stands whenever no call is unfinished
  abbrev pub FreeStays : List Event → World S → Type 0
  FreeStays [] w = Unit {0}
  FreeStays (Do k ∷ es) w =
      (s s' : S) (image' table table' : List ℕ) (r : Report) → Lends Proper k w s table → Called Proper state_of Fits k s s' w.image image' table table' r → AreBytes image' → Stands k r
      → (unfinished_after r w.unfinished ≡ false → FreeIn image') × FreeStays es (after_call k w s' image' table' r)
  FreeStays (Cut chooses ∷ es) w = Unit {0}

  -- with no call unfinished, after a cut too, the image is not stuck; and where a free chunk stands, the rule is kept
  -- by itself until the next cut
  abbrev pub UnstuckNow : World S → Type 0
  UnstuckNow w = w.unfinished ≡ false → UnstuckIn w.image × (FreeIn w.image → (events : List Event) → FreeStays events w)

  abbrev pub RoomClaim : Event → (World S → Type 0) → World S → Type 0
  RoomClaim (Do k) Then w =
      (s s' : S) (image' table table' : List ℕ) (r : Report) → Lends Proper k w s table → Called Proper state_of Fits k s s' w.image image' table table' r → AreBytes image' → Stands k r
      → Obeys k w r → UnstuckNow (after_call k w s' image' table' r) × Then (after_call k w s' image' table' r)
  RoomClaim (Cut chooses) Then w =
      (image' : List ℕ) → AreBytes image' → words_of image' ≡ cut chooses w.medium → length image' ≡ length w.image
      → UnstuckNow (after_cut w chooses image') × Then (after_cut w chooses image')

  abbrev pub KeepsRoom : List Event → World S → Type 0
  KeepsRoom [] w = Unit {0}
  KeepsRoom (e ∷ es) w = RoomClaim e (KeepsRoom es) w

  -- the two starts of demand 3; at the second the image that opening accepted is roomy
  abbrev pub RoomAfterFormat : List Event → Type 0
  RoomAfterFormat events =
      (m m' : Medium) (s s₀ s' : S) (image image' table table₀ table' : List ℕ) (p : ℕ) (station centre : Given) (a n : ℕ) (rs : List Report)
      → words_of image ≡ latest m → Proper s
      → Called Proper state_of Fits (Format p station centre) s s₀ image image table table₀ (R.Begun a)
      → Stepped Proper state_of Fits (rs ++ (R.End n ∷ [])) m s₀ image table₀ m' s' image' table' → AreBytes image'
      → UnstuckNow (world Proper state_of Fits m' image' none 0) × KeepsRoom events (world Proper state_of Fits m' image' none 0)

  abbrev pub RoomAfterOpening : List Event → Type 0
  RoomAfterOpening events =
      (s s' : S) (image table table' : List ℕ) → AreBytes image → Proper s → Called Proper state_of Fits Open s s' image image table table' R.Opened
      → InImage Roomy image
      → UnstuckNow (world Proper state_of Fits (settled_at (words_of image)) image (some (record { session = s'; table = table' })) (length table'))
      × KeepsRoom events (world Proper state_of Fits (settled_at (words_of image)) image (some (record { session = s'; table = table' })) (length table'))

  -- NEVER STUCK
  -- R83
  abbrev pub NeverStuck : Type 0
  NeverStuck = (events : List Event) → RoomAfterFormat events × RoomAfterOpening events
