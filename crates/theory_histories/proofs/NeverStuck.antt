-- NEVER STUCK, over every list of calls and power cuts: beside the invariant of demand 3 goes one of the room
-- (RoomKept). With no call unfinished every word that reads free is surely free, and every cut is roomy; while one is
-- unfinished every cut is roomy, and at its end there is room again.
-- Assumes nothing.
use mathlib.Core.Path.{◌≡◌, refl, sym, ◌∙◌, ap}
use mathlib.Core.Logic.{inl, inr, ◌⊎◌}
use mathlib.Core.Bool.{Bool, true, false}
use mathlib.Core.Option.{Option, none, some}
use mathlib.Core.List.{List, [], ◌∷◌, ◌++◌}
use Prim.Native.Nat.{ℕ, ◌*◌, ◌/◌, ◌≤◌}
use native.Mathlib.Omega.{arith}
use lib.ListN.{length}
use Rattle.spec.specs.Words.{words_of, AreBytes}
use Rattle.spec.specs.Places.{is_power, base, chunks_in, size_allowed}
use Rattle.spec.specs.Header.{header_power}
use Rattle.spec.specs.Medium.{Medium, Action, latest, cut, settled_at}
use Rattle.spec.specs.Contents.{contents}
use Rattle.spec.specs.Actions.{format_of}
use Rattle.spec.specs.Reports.{medium_after, is_refused}
use Rattle.spec.specs.Machine.{Call, Format, Open, Put, Delete, Commit, Abandon, LookUp, Choose, Clean, Step, State, Closed, Rest, Busy, Formatting, is_open, answer}
use Rattle.spec.specs.Book.{Book, new_book, nothing, note, note_cut, note_open}
use Rattle.spec.specs.Contract.{Called}
use Rattle.spec.specs.History.{Event, Do, Cut, Lent, World, SameLent, Lends, Stands, unfinished_after, after_call, after_cut, Stepped, world}
use Rattle.spec.specs.Unstuck.{Roomy, Unstuck, InImage, Obeys, UnstuckNow, RoomClaim, KeepsRoom, RoomAfterFormat, RoomAfterOpening, NeverStuck, FreeStands, FreeIn, FreeStays}
use Rattle.spec.specs.Basics.{Given}
use Rattle.spec.specs.declared.Report.{Report}
use Rattle.spec.specs.declared.Report.TheVariants as R
use Rattle.theory_base.proofs.Places.{power-bounds, size-allowed}
use Rattle.theory_base.proofs.Words as W
use Rattle.theory_base.proofs.Through.{Through, through-map}
use Rattle.theory_crash.proofs.Room.{RoomyCuts, Room}
use Rattle.theory_plans.specs.Standing.{Standing}
use Rattle.theory_plans.specs.Laws.{Laws, Anything}
use Rattle.theory_plans.proofs.Hold.{laws-hold}
use Rattle.theory_plans.proofs.RoomStarts.{stand-unstuck, settled-room, format-room}
use Rattle.theory_histories.proofs.Kept as K
use Rattle.theory_histories.proofs.Kept.{Holds}
use Rattle.theory_histories.proofs.Invariant.{Either, HeldAt, Inv, false-true, refused-is}
use Rattle.theory_histories.proofs.Events as E
use Rattle.theory_histories.proofs.Starts as Start
use Rattle.theory_histories.proofs.Theorem as T
use Rattle.theory_histories.proofs.RoomKept.{RoomIn, Resting, After, put-after, delete-after, commit-after, clean_after, abandon-after, look-after, choose-after, step_after}

-- THE WORLD
module _ (p : ℕ) (power : is_power p ≡ true) {S : Type 0} (Proper : S → Type 0) (state_of : S → State) (Fits : S → List ℕ → List ℕ → Type 0) where
  abbrev lo : 12 ≤ p
  lo = (power-bounds p power).0

  abbrev hi : p ≤ 16
  hi = (power-bounds p power).1

  abbrev laws : Laws p
  laws = laws-hold p lo hi

  module _ (bytes : ℕ) (whole : bytes ≡ 8 * base p (chunks_in p bytes)) where
    abbrev n : ℕ
    n = chunks_in p bytes

    abbrev RoomOf : Type 0 → State → Medium → Type 0
    RoomOf Φ σ m = RoomIn p lo hi bytes Φ σ m

    abbrev RoomAt : Type 0 → Option (Lent S) → Medium → Type 0
    RoomAt Φ none m = Resting p lo hi bytes Φ m
    RoomAt Φ (some l) m = RoomOf Φ (state_of l.session) m

    -- under Φ a free chunk stands, too, whenever no call is unfinished
    record RoomInv (Φ : Type 0) (w : World S) : Type 0 where
      pub book : Book
      pub inv : Inv p Proper state_of Fits bytes w book
      pub room : RoomAt Φ w.lent w.medium

    -- what is said of the image's bytes, by the power that its header says, is said of the medium
    image-power : (w : World S) (b : Book) → Inv p Proper state_of Fits bytes w b → header_power (latest w.medium) ≡ p
    image-power w b i = E.inv-power p power laws Proper state_of Fits bytes w b i

    from-image : (P : ℕ → ℕ → List ℕ → Type 0) (w : World S) (b : Book) → Inv p Proper state_of Fits bytes w b → InImage P w.image → P p n (latest w.medium)
    from-image P w b i h = rw (i.agrees, i.sized, image-power w b i) at h

    to-image : (P : ℕ → ℕ → List ℕ → Type 0) (w : World S) (b : Book) → Inv p Proper state_of Fits bytes w b → P p n (latest w.medium) → InImage P w.image
    to-image P w b i h = rw (i.agrees, i.sized, image-power w b i) h

    same-room : (Φ : Type 0) (lent : Option (Lent S)) (s : S) (table : List ℕ) (m : Medium) → SameLent lent s table → RoomAt Φ lent m → RoomOf Φ (state_of s) m
    same-room Φ none s table m e h = absurd e
    same-room Φ (some l) s table m e h = rw (← e.0) h

    -- what stands with no call unfinished
    stands-now : (Φ : Type 0) (w : World S) (b : Book) → w.unfinished ≡ false → (lent : Option (Lent S)) → HeldAt p Proper state_of Fits bytes lent w b → RoomAt Φ lent w.medium
        → Unstuck p n (latest w.medium) × Resting p lo hi bytes Φ w.medium
    stands-now Φ w b idle none (inl s) x = (stand-unstuck p lo hi n w.least (note_open false b).register [] [] w.medium s x.0, x)
    stands-now Φ w b idle none (inr s) x = (stand-unstuck p lo hi n w.least (note_open true b).register [] [] w.medium s x.0, x)
    stands-now Φ w b idle (some l) h x = go (state_of l.session) h.2 x
      where
        go : (σ : State) → Holds p bytes w.least w.unfinished b σ w.medium → RoomOf Φ σ w.medium → Unstuck p n (latest w.medium) × Resting p lo hi bytes Φ w.medium
        go Closed h x = absurd h
        go (Rest z l t items) h x = (stand-unstuck p lo hi n w.least b.register b.staged items w.medium h.3 x.0, x)
        go (Busy z l t items task rest) h x = absurd (false-true (sym idle ∙ h.2))
        go (Formatting o l t rest) h x = absurd h

    -- where a free chunk stands, it is known to
    with-free : (Φ : Type 0) (w : World S) → w.unfinished ≡ false → FreeIn w.image → RoomInv Φ w → RoomInv (Unit {0}) w
    with-free Φ w idle f i = record { book = i.book; inv = i.inv; room = go w.lent i.inv.held i.room }
      where
        stands : FreeStands p n (latest w.medium)
        stands = from-image FreeStands w i.book i.inv f

        go : (lent : Option (Lent S)) → HeldAt p Proper state_of Fits bytes lent w i.book → RoomAt Φ lent w.medium → RoomAt (Unit {0}) lent w.medium
        go none h x = (x.0, λ y. stands)
        go (some l) h x = two (state_of l.session) h.2 x
          where
            two : (σ : State) → Holds p bytes w.least w.unfinished i.book σ w.medium → RoomOf Φ σ w.medium → RoomOf (Unit {0}) σ w.medium
            two Closed h x = absurd h
            two (Rest z l t items) h x = (x.0, λ y. stands)
            two (Busy z l t items task rest) h x = absurd (false-true (sym idle ∙ h.2))
            two (Formatting o l t rest) h x = absurd h

    module _ (Φ : Type 0) (w : World S) (i : RoomInv Φ w) (s s' : S) (image' table table' : List ℕ) (r : Report) where
      abbrev b : Book
      b = i.book

      -- a call on the record and table that the last one left
      module _ (k : Call) (same : SameLent w.lent s table) (c : Called Proper state_of Fits k s s' w.image image' table table' r) where
        held : HeldAt p Proper state_of Fits bytes (some (record { session = s; table = table })) w b
        held = E.lent p power laws Proper state_of Fits bytes k w b s s' image' table table' r i.inv same c

        room-now : RoomOf Φ (state_of s) w.medium
        room-now = same-room Φ w.lent s table w.medium same i.room

        -- exact on memory as our calls left it
        usual : (q : E.Usual p power laws Proper state_of Fits bytes k)
            → ((σ : State) → σ ≡ state_of s → Holds p bytes w.least w.unfinished b σ w.medium → RoomOf Φ σ w.medium → After p lo hi bytes Φ w.least w.unfinished b w.medium k σ)
            → RoomInv Φ (after_call k w s' image' table' r)
        usual q after =
            let y = q.ready s (words_of w.image) table held.0 in
            let e = E.answered p power laws Proper state_of Fits bytes k w b s s' image' table table' r i.inv same c y in
            let f = E.became p power laws Proper state_of Fits bytes k w b s s' image' table table' r i.inv same c y in
            record { book = note k r b; inv = E.usual-kept p power laws Proper state_of Fits bytes k w b s s' image' table table' r i.inv same c q; room = rw (f, e) (after (state_of s) refl held.2 room-now) }

      -- a refused formatting changes nothing
      format-keeps : (y : ℕ) (station centre : Given) → SameLent w.lent s table → Called Proper state_of Fits (Format y station centre) s s' w.image image' table table' r → is_refused r ≡ true
          → RoomInv Φ (after_call (Format y station centre) w s' image' table' r)
      format-keeps y station centre same c e =
          let q = refused-is r e in
          let o = rw q.1 at c.outcome in
          record {
            book = b;
            inv = E.format-kept p power laws Proper state_of Fits bytes y station centre w b s s' image' table table' r i.inv same c e;
            room = rw (q.1, o.1.0) (room-now (Format y station centre) same c);
          }

      -- an opening: the state is at rest then, and the medium as before
      open-keeps : Lends Proper Open w s table → Called Proper state_of Fits Open s s' w.image image' table table' r → AreBytes image' → RoomInv Φ (after_call Open w s' image' table' r)
      open-keeps may c small = record { book = note_open opens.1.0 b; inv = opens.1.1; room = rw opens.0 (at_rest (state_of s') opens.1.1.held.2) }
        where
          after' : World S
          after' = after_call Open w s' image' table' r

          opens : (r ≡ R.Opened) × ((done : Bool) × Inv p Proper state_of Fits bytes (after_call Open w s' image' table' r) (note_open done b))
          opens = let o = E.opening-claim p power laws Proper state_of Fits bytes whole (Inv p Proper state_of Fits bytes) (λ w b i. i) w b s s' image' table table' r i.inv may c small in (o.0, (o.1.0, o.1.1.1))

          idle : unfinished_after r w.unfinished ≡ false
          idle = rw opens.0 refl

          before : Resting p lo hi bytes Φ w.medium
          before = (stands-now Φ w b may.0 w.lent i.inv.held i.room).1

          at_rest : (σ : State) → Holds p bytes (length table') (unfinished_after r w.unfinished) (note_open opens.1.0 b) σ (medium_after r w.medium) → RoomOf Φ σ w.medium
          at_rest Closed h = tt
          at_rest (Rest z l t items) h = before
          at_rest (Busy z l t items task rest) h = absurd (false-true (sym idle ∙ h.2))
          at_rest (Formatting o l t rest) h = tt

    -- A POWER CUT
    going-cuts : (rest : List Action) (m : Medium) → Through (RoomyCuts p n) (Room p n) rest m → RoomyCuts p n m
    going-cuts [] m g = g.1
    going-cuts (a ∷ rest) m g = g.0

    lent-cuts : (Φ : Type 0) (w : World S) (b : Book) (lent : Option (Lent S)) → HeldAt p Proper state_of Fits bytes lent w b → RoomAt Φ lent w.medium → RoomyCuts p n w.medium
    lent-cuts Φ w b none h x = x.0.1
    lent-cuts Φ w b (some l) h x = go (state_of l.session) h.2 x
      where
        go : (σ : State) → Holds p bytes w.least w.unfinished b σ w.medium → RoomOf Φ σ w.medium → RoomyCuts p n w.medium
        go Closed h x = absurd h
        go (Rest z l t items) h x = x.0.1
        go (Busy z l t items task rest) h x = going-cuts rest w.medium x.0
        go (Formatting o l t rest) h x = absurd h

    cut_keeps : (w : World S) (i : RoomInv ⊥ w) (chooses : ℕ → ℕ) (image' : List ℕ) → words_of image' ≡ cut chooses w.medium → length image' ≡ length w.image → RoomInv ⊥ (after_cut w chooses image')
    cut_keeps w i chooses image' e long = record { book = note_cut i.book; inv = j; room = (go j.held, λ x. absurd x) }
      where
        j : Inv p Proper state_of Fits bytes (after_cut w chooses image') (note_cut i.book)
        j = E.cut-kept p power laws Proper state_of Fits bytes w i.book chooses image' e long i.inv

        roomy : Roomy p n (cut chooses w.medium)
        roomy = lent-cuts ⊥ w i.book w.lent i.inv.held i.room (cut chooses w.medium) (W.can-cut chooses w.medium)

        go : Either p bytes w.least (note_cut i.book) (settled_at (cut chooses w.medium)) → Room p n (settled_at (cut chooses w.medium))
        go (inl s) = settled-room p lo hi n w.least (note_open false (note_cut i.book)).register [] [] (cut chooses w.medium) s roomy
        go (inr s) = settled-room p lo hi n w.least (note_open true (note_cut i.book)).register [] [] (cut chooses w.medium) s roomy

    -- EVERY CALL, by the host's rule or under Φ
    call-keeps : (Φ : Type 0) (k : Call) (w : World S) → RoomInv Φ w → (s s' : S) (image' table table' : List ℕ) (r : Report) → Lends Proper k w s table
        → Called Proper state_of Fits k s s' w.image image' table table' r → AreBytes image' → Stands k r → Φ ⊎ Obeys Proper state_of Fits k w r → RoomInv Φ (after_call k w s' image' table' r)
    call-keeps Φ (Format y a z) w i s s' image' table table' r l c small e o = (format-keeps Φ w i s s' image' table table' r y a z l c e)
    call-keeps Φ Open w i s s' image' table table' r l c small e o = (open-keeps Φ w i s s' image' table table' r l c small)
    call-keeps Φ (Put x k v) w i s s' image' table table' r l c small e o =
        (usual Φ w i s s' image' table table' r (Put x k v) l c (record { ready = λ s ws t f. f; again = λ s ws t r f. f; least = λ t a. refl; kept = λ least u b m. K.put-kept p laws bytes least u b m x k v e })
        (λ σ q. put-after p lo hi bytes Φ w.least w.unfinished i.book w.medium x k v e σ))
    call-keeps Φ (Delete x k) w i s s' image' table table' r l c small e o =
        (usual Φ w i s s' image' table table' r (Delete x k) l c (record { ready = λ s ws t f. f; again = λ s ws t r f. f; least = λ t a. refl; kept = λ least u b m. K.delete-kept p laws bytes least u b m x k })
        (λ σ q. delete-after p lo hi bytes Φ w.least w.unfinished i.book w.medium x k σ))
    call-keeps Φ Commit w i s s' image' table table' r l c small e o =
        (usual Φ w i s s' image' table table' r Commit l c plain
        (λ σ q. commit-after p lo hi bytes Φ w.least w.unfinished i.book w.medium σ (rule σ q o)))
      where
        plain : E.Usual p power laws Proper state_of Fits bytes Commit
        plain = record { ready = λ s ws t f. f; again = λ s ws t r f. f; least = λ t a. refl; kept = K.commit-kept p laws bytes }

        answered : {σ : State} → σ ≡ state_of s → r ≡ answer Commit σ (latest w.medium) bytes w.least
        answered q = rw q (E.answered p power laws Proper state_of Fits bytes Commit w i.book s s' image' table table' r i.inv l c (held Φ w i s s' image' table table' r Commit l c).0)

        rule : (σ : State) → σ ≡ state_of s → Φ ⊎ (is_refused r ≡ false → FreeIn w.image)
            → Φ ⊎ (is_refused (answer Commit σ (latest w.medium) bytes w.least) ≡ false → FreeStands p n (latest w.medium))
        rule σ q (inl x) = inl x
        rule σ q (inr x) = inr (λ f. from-image FreeStands w i.book i.inv (x (ap is_refused (answered q) ∙ f)))
    call-keeps Φ Abandon w i s s' image' table table' r l c small e o =
        (usual Φ w i s s' image' table table' r Abandon l c (record { ready = λ s ws t f. f; again = λ s ws t r f. f; least = λ t a. refl; kept = K.abandon-kept p laws bytes })
        (λ σ q. abandon-after p lo hi bytes Φ w.least w.unfinished i.book w.medium σ))
    call-keeps Φ (LookUp k) w i s s' image' table table' r l c small e o =
        (usual Φ w i s s' image' table table' r (LookUp k) l c (record { ready = λ s ws t f. f; again = λ s ws t r f. f; least = λ t a. refl; kept = λ least u b m. K.look-kept p laws bytes least u b m k })
        (λ σ q. look-after p lo hi bytes Φ w.least w.unfinished i.book w.medium k σ))
    call-keeps Φ Choose w i s s' image' table table' r l c small e o =
        (usual Φ w i s s' image' table table' r Choose l c (record { ready = λ s ws t f. f; again = λ s ws t r f. f; least = λ t a. refl; kept = K.choose-kept p laws bytes })
        (λ σ q. choose-after p lo hi bytes Φ w.least w.unfinished i.book w.medium σ))
    call-keeps Φ (Clean x) w i s s' image' table table' r l c small e o =
        (usual Φ w i s s' image' table table' r (Clean x) l c (record { ready = λ s ws t f. f; again = λ s ws t r f. f; least = λ t a. refl; kept = λ least u b m. K.clean-kept p laws bytes least u b m x })
        (λ σ q. clean_after p lo hi bytes Φ w.least w.unfinished i.book w.medium x σ))
    call-keeps Φ Step w i s s' image' table table' r l c small e o =
        (usual Φ w i s s' image' table table' r Step l c (record { ready = λ s ws t f. f; again = λ s ws t r f. f; least = λ t a. refl; kept = K.step_kept p laws bytes })
        (λ σ q. step_after p lo hi bytes Φ w.least w.unfinished i.book w.medium σ))

    -- until the next cut a free chunk stays
    free_stays : (events : List Event) (w : World S) → RoomInv (Unit {0}) w → FreeStays Proper state_of Fits events w
    free_stays [] w i = tt
    free_stays (Do k ∷ events) w i = λ s s' image' table table' r l c small e.
        let j : RoomInv (Unit {0}) (after_call k w s' image' table' r) = call-keeps (Unit {0}) k w i s s' image' table table' r l c small e (inl tt) in
        ((λ idle. to-image FreeStands (after_call k w s' image' table' r) j.book j.inv ((stands-now (Unit {0}) (after_call k w s' image' table' r) j.book idle (after_call k w s' image' table' r).lent j.inv.held j.room).1.1 tt)), free_stays events (after_call k w s' image' table' r) j)
    free_stays (Cut chooses ∷ events) w i = tt

    unstuck-now : (w : World S) → RoomInv ⊥ w → UnstuckNow Proper state_of Fits w
    unstuck-now w i idle = (
      to-image Unstuck w i.book i.inv (stands-now ⊥ w i.book idle w.lent i.inv.held i.room).0,
      λ f events. free_stays events w (with-free ⊥ w idle f i),
    )

    -- EVERY EVENT
    module _ (Then : World S → Type 0) (sound : (w : World S) → RoomInv ⊥ w → Then w) where
      both-then : (w : World S) → RoomInv ⊥ w → UnstuckNow Proper state_of Fits w × Then w
      both-then w i = (unstuck-now w i, sound w i)

      event-keeps : (e : Event) (w : World S) → RoomInv ⊥ w → RoomClaim Proper state_of Fits e Then w
      event-keeps (Do k) w i = λ s s' image' table table' r l c small e o. both-then (after_call k w s' image' table' r) (call-keeps ⊥ k w i s s' image' table table' r l c small e (inr o))
      event-keeps (Cut chooses) w i = λ image' small e long. both-then (after_cut w chooses image') (cut_keeps w i chooses image' e long)

    keeps-room : (events : List Event) (w : World S) → RoomInv ⊥ w → KeepsRoom Proper state_of Fits events w
    keeps-room [] w i = tt
    keeps-room (e ∷ events) w i = event-keeps (KeepsRoom Proper state_of Fits events) (keeps-room events) e w i

  -- BOTH STARTS, of a formatting that is told this power and of an accepted header that says it
  start-format : (events : List Event) (m m' : Medium) (s s₀ s' : S) (image image' table table₀ table' : List ℕ) (station centre : Given) (a k : ℕ) (rs : List Report)
      → words_of image ≡ latest m → Called Proper state_of Fits (Format p station centre) s s₀ image image table table₀ (R.Begun a)
      → Stepped Proper state_of Fits (rs ++ (R.End k ∷ [])) m s₀ image table₀ m' s' image' table'
      → UnstuckNow Proper state_of Fits (world Proper state_of Fits m' image' none 0) × KeepsRoom Proper state_of Fits events (world Proper state_of Fits m' image' none 0)
  start-format events m m' s s₀ s' image image' table table₀ table' station centre a k rs agrees c steps = (unstuck-now bytes i.0 start inv, keeps-room bytes i.0 events start inv)
    where
      bytes : ℕ
      bytes = length image

      i : (length image ≡ 8 * base p (chunks_in p (length image))) × Inv p Proper state_of Fits (length image) (world Proper state_of Fits m' image' none 0) (new_book nothing)
      i = Start.format-start p power laws Proper state_of Fits m m' s s₀ s' image image' table table₀ table' station centre a k rs agrees c steps

      start : World S
      start = world Proper state_of Fits m' image' none 0

      started : (size_allowed p (length image) ≡ true) × (length m ≡ length image / 8)
          × (state_of s₀ ≡ Formatting (is_open (state_of s)) (length image) (length table) (format_of p (chunks_in p (length image)) station centre))
      started = Start.format-begins Proper state_of Fits m s s₀ image table table₀ p station centre a agrees c

      size : length m ≡ base p (chunks_in p (length image))
      size = let w = i.0 in let z = started.1 in omega arith

      made : Through Anything (Room p (chunks_in p (length image))) (format_of p (chunks_in p (length image)) station centre) m
      made =
          through-map Anything Anything (Standing p (chunks_in p (length image)) 0 nothing [] []) (Room p (chunks_in p (length image))) (format_of p (chunks_in p (length image)) station centre) m (λ m'' t. t)
          (format-room p lo hi (chunks_in p (length image)) 0 nothing [] [] station centre m size) (laws.format-stands (length image) 0 m station centre (size-allowed p (length image) started.0).1 started.1).0

      room' : Room p (chunks_in p (length image)) m'
      room' =
          (Start.format-walk Proper state_of Fits Anything (Room p (chunks_in p (length image))) (length image) (length table) (is_open (state_of s)) (format_of p (chunks_in p (length image)) station centre) rs k m m' s₀ s' image image' table₀ table'
          started.2 refl (sym c.sized) agrees made steps).0

      inv : RoomInv bytes i.0 ⊥ start
      inv = record { book = new_book nothing; inv = i.1; room = (room', λ x. absurd x) }

  start-opening : (events : List Event) (s s' : S) (image table table' : List ℕ) → header_power (words_of image) ≡ p → Proper s → Called Proper state_of Fits Open s s' image image table table' R.Opened
      → Roomy p (chunks_in p (length image)) (words_of image)
      → UnstuckNow Proper state_of Fits (world Proper state_of Fits (settled_at (words_of image)) image (some (record { session = s'; table = table' })) (length table'))
      × KeepsRoom Proper state_of Fits events (world Proper state_of Fits (settled_at (words_of image)) image (some (record { session = s'; table = table' })) (length table'))
  start-opening events s s' image table table' said proper c roomy = (unstuck-now (length image) i.0 start inv, keeps-room (length image) i.0 events start inv)
    where
      i : (length image ≡ 8 * base p (chunks_in p (length image)))
          × Inv p Proper state_of Fits (length image) (world Proper state_of Fits (settled_at (words_of image)) image (some (record { session = s'; table = table' })) (length table'))
          (new_book (contents p (chunks_in p (length image)) (words_of image)))
      i = Start.opening-start p power laws Proper state_of Fits s s' image table table' said proper c

      start : World S
      start = world Proper state_of Fits (settled_at (words_of image)) image (some (record { session = s'; table = table' })) (length table')

      rest : (σ : State) → Holds p (length image) (length table') false (new_book (contents p (chunks_in p (length image)) (words_of image))) σ (settled_at (words_of image)) → RoomOf (length image) i.0 ⊥ σ (settled_at (words_of image))
      rest Closed h = tt
      rest (Rest z l t items) h = (settled-room p lo hi (chunks_in p (length image)) (length table') (contents p (chunks_in p (length image)) (words_of image)) [] items (words_of image) h.3 roomy, λ x. absurd x)
      rest (Busy z l t items task acts) h = absurd (false-true h.2)
      rest (Formatting o l t acts) h = tt

      inv : RoomInv (length image) i.0 ⊥ start
      inv = record { book = new_book (contents p (chunks_in p (length image)) (words_of image)); inv = i.1; room = rest (state_of s') i.1.held.2 }

-- at every power that there is
module _ {S : Type 0} (Proper : S → Type 0) (state_of : S → State) (Fits : S → List ℕ → List ℕ → Type 0) where
  after-format : (events : List Event) → RoomAfterFormat Proper state_of Fits events
  after-format events m m' s s₀ s' image image' table table₀ table' p station centre a k rs agrees proper c steps small =
      let q = size-allowed p (length image) (Start.format-begins Proper state_of Fits m s s₀ image table table₀ p station centre a agrees c).0 in
      start-format p q.0 Proper state_of Fits events m m' s s₀ s' image image' table table₀ table' station centre a k rs agrees c steps

  after-opening : (events : List Event) → RoomAfterOpening Proper state_of Fits events
  after-opening events s s' image table table' small proper c roomy =
      start-opening (header_power (words_of image)) (T.opened-power Proper state_of Fits s s' image table table' proper c) Proper state_of Fits events s s' image table table' refl proper c roomy

  pub never_stuck : NeverStuck Proper state_of Fits
  never_stuck events = (after-format events, after-opening events)
