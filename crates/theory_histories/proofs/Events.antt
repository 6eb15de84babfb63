-- Every event keeps the invariant: a call on the record and table that the last one left, a refused formatting, an
-- opening, a power cut; and look-up gives what the book says.
-- Assumes nothing.
use native.Mathlib.Omega.{arith}
use Rattle.std.proofs.lemmas.Bool.Decides.{nat_tests}
use mathlib.Core.Path.{◌≡◌, refl, sym, ◌∙◌, ap}
use mathlib.Core.Logic.{◌⊎◌, inl, inr, ⊎_elim}
use mathlib.Core.Bool.{Bool, true, false}
use mathlib.Core.Option.{Option, none, some}
use mathlib.Core.List.{List, [], ◌∷◌}
use Prim.Native.Nat.{ℕ, ◌*◌, ◌≤◌}
use lib.ListN.{length}
use Rattle.spec.specs.Words.{words_of, AreBytes}
use Rattle.spec.specs.Places.{is_power, base, chunks_in}
use Rattle.spec.specs.Header.{header_power}
use Rattle.spec.specs.Medium.{Medium, Action, latest, cut, settled_at}
use Rattle.spec.specs.Log.{Entry}
use Rattle.spec.specs.Contents.{Held}
use Rattle.spec.specs.Opening.{Accepted, opening}
use Rattle.spec.specs.Reports.{medium_after, is_refused}
use Rattle.spec.specs.Machine.{Call, Format, Open, LookUp, State, Closed, Rest, Busy, Formatting, items_then, answer, next}
use Rattle.spec.specs.Book.{Item, Book, done_batch, note, note_cut, note_open}
use Rattle.spec.specs.Contract.{Again, Ready, Called}
use Rattle.spec.specs.History.{Lent, World, SameLent, MayOpen, least_after, after_call, after_cut, Opens, Looks}
use Rattle.spec.specs.Basics.{Given}
use Rattle.spec.specs.declared.Report.{Report}
use Rattle.spec.specs.declared.Report.TheVariants as R
use Rattle.theory_base.proofs.Words as W
use Rattle.theory_plans.specs.Standing.{Standing, Going}
use Rattle.theory_plans.specs.Laws.{Laws}
use Rattle.theory_histories.proofs.Kept as K
use Rattle.theory_histories.proofs.Kept.{StandsBy, Holds, Keeps}
use Rattle.theory_histories.proofs.Invariant.{Either, HeldAt, Inv, image-follows, false-true}

module _ (p : ℕ) (power : is_power p ≡ true) (laws : Laws p) {S : Type 0} (Proper : S → Type 0) (state_of : S → State) (Fits : S → List ℕ → List ℕ → Type 0) (bytes : ℕ) where
  abbrev n : ℕ
  n = chunks_in p bytes

  -- THE HEADER SAYS THE POWER wherever the invariant holds.
  either-power : (least : ℕ) (b : Book) (m : Medium) → Either p bytes least b m → header_power (latest m) ≡ p
  either-power least b m (inl h) = laws.stand-power n least (note_open false b).register [] [] m h
  either-power least b m (inr h) = laws.stand-power n least (note_open true b).register [] [] m h

  pub inv-power : (w : World S) (b : Book) → Inv p Proper state_of Fits bytes w b → header_power (latest w.medium) ≡ p
  inv-power w b i = go w.lent i.held
    where
      go : (lent : Option (Lent S)) → HeldAt p Proper state_of Fits bytes lent w b → header_power (latest w.medium) ≡ p
      go none h = either-power w.least b w.medium h
      go (some l) h = K.holds-power p laws bytes w.least w.unfinished b w.medium (state_of l.session) h.2

  -- CALLS on the record and table that the last one left.
  pub same-lent : (w : World S) (b : Book) (lent : Option (Lent S)) (s : S) (table : List ℕ) → SameLent lent s table → HeldAt p Proper state_of Fits bytes lent w b
      → HeldAt p Proper state_of Fits bytes (some (record { session = s; table = table })) w b
  same-lent w b none s table e h = absurd e
  same-lent w b (some l) s table e h = rw (← e.0, ← e.1) h

  -- what a call has that keeps the invariant: `Fits` is all it asks of its record, memory fits again, it leaves the
  -- table's bound, and its next state holds
  pub record Usual (k : Call) : Type 0 where
    pub ready : (s : S) (ws table : List ℕ) → Fits s ws table → Ready Proper state_of Fits k s ws table
    pub again : (s : S) (ws table : List ℕ) (r : Report) → Again k r (Fits s ws table) → Fits s ws table
    pub least : (table : List ℕ) (a : ℕ) → least_after k table a ≡ a
    pub kept : (least : ℕ) (u : Bool) (b : Book) (m : Medium) (σ : State) → Holds p bytes least u b σ m → Keeps p bytes least u b m k σ

  module _ (k : Call) (w : World S) (b : Book) (s s' : S) (image' table table' : List ℕ) (r : Report) (i : Inv p Proper state_of Fits bytes w b) (same : SameLent w.lent s table)
      (c : Called Proper state_of Fits k s s' w.image image' table table' r) where
    pub lent : HeldAt p Proper state_of Fits bytes (some (record { session = s; table = table })) w b
    lent = same-lent w b w.lent s table same i.held

    follows : (words_of image' ≡ latest (medium_after r w.medium)) × (length image' ≡ length w.image)
    follows = image-follows r w.medium w.image image' c.image i.agrees

    pub answered : Ready Proper state_of Fits k s (words_of w.image) table → r ≡ answer k (state_of s) (latest w.medium) bytes w.least
    answered y = rw (← i.agrees, ← i.sized, ← lent.1) (c.exact y).answered

    pub became : Ready Proper state_of Fits k s (words_of w.image) table → state_of s' ≡ next k (state_of s) (latest w.medium) bytes w.least
    became y = rw (← i.agrees, ← i.sized, ← lent.1) (c.exact y).became

    pub usual-kept : Usual k → Inv p Proper state_of Fits bytes (after_call k w s' image' table' r) (note k r b)
    usual-kept q =
        let y : Ready Proper state_of Fits k s (words_of w.image) table = q.ready s (words_of w.image) table lent.0 in record {
          agrees = follows.0;
          sized = follows.1 ∙ i.sized;
          held = (
            q.again s' (words_of image') table' r (c.exact y).fits,
            c.sized ∙ lent.1 ∙ sym (q.least table' w.least),
            rw (q.least, became y, answered y) (q.kept w.least w.unfinished b w.medium (state_of s) lent.2),
          );
        }

  -- A FORMATTING stands in the list only if refused.
  pub format-kept : (y : ℕ) (station centre : Given) (w : World S) (b : Book) (s s' : S) (image' table table' : List ℕ) (r : Report) → Inv p Proper state_of Fits bytes w b → SameLent w.lent s table
      → Called Proper state_of Fits (Format y station centre) s s' w.image image' table table' r → is_refused r ≡ true → Inv p Proper state_of Fits bytes (after_call (Format y station centre) w s' image' table' r) b
  format-kept y station centre w b s s' image' table table' r i same c e = grind (arith, nat_tests)

  -- LOOK-UP with no call unfinished gives what the book says.
  pub looks : (k : ℕ) (w : World S) (b : Book) (s s' : S) (image' table table' : List ℕ) (r : Report) → Inv p Proper state_of Fits bytes w b → SameLent w.lent s table
      → Called Proper state_of Fits (LookUp k) s s' w.image image' table table' r → AreBytes image' → Looks Proper state_of Fits k w b image' r
  looks k w b s s' image' table table' r i same c small idle =
      rw e (K.look-right p laws bytes w.least w.unfinished b w.medium k image' small words idle (state_of s) h.2)
    where
      h : HeldAt p Proper state_of Fits bytes (some (record { session = s; table = table })) w b
      h = lent (LookUp k) w b s s' image' table table' r i same c

      e : r ≡ answer (LookUp k) (state_of s) (latest w.medium) bytes w.least
      e = answered (LookUp k) w b s s' image' table table' r i same c h.0

      reads : medium_after r w.medium ≡ w.medium
      reads = rw e (K.look-reads k (state_of s) (latest w.medium) bytes w.least w.unfinished w.medium).1

      words : words_of image' ≡ latest w.medium
      words = (follows (LookUp k) w b s s' image' table table' r i same c).0 ∙ ap latest reads

  -- AN OPENING of a medium that stands succeeds, and look-up then gives what it stands with.
  module _ (whole : bytes ≡ 8 * base p (chunks_in p bytes)) (w : World S) (b : Book) (done : Bool) (s s' : S) (image' table table' : List ℕ) (r : Report)
      (agrees : words_of w.image ≡ latest w.medium) (sized : length w.image ≡ bytes) (stands : StandsBy p bytes w.least (note_open done b) [] w.medium)
      (larger : w.least ≤ length table) (proper : Proper s) (c : Called Proper state_of Fits Open s s' w.image image' table table' r) where
    now-stands : StandsBy p bytes (length table) (note_open done b) [] w.medium
    now-stands = laws.larger-table n w.least (length table) (note_open done b).register [] [] w.medium larger stands

    accepts : (es : List Entry) × (opening (length w.image) (words_of w.image) (length table) ≡ Accepted es)
    accepts = rw (agrees, sized, whole) (laws.open-accepts n (length table) (note_open done b).register [] [] w.medium now-stands power)

    opens : r ≡ R.Opened
    opens = (c.exact proper).answered ∙ rw accepts.1

    said : header_power (words_of w.image) ≡ p
    said = ap header_power agrees ∙ laws.stand-power n (length table) (note_open done b).register [] [] w.medium now-stands

    rests : state_of s' ≡ Rest p (length w.image) (length table) []
    unfolding next
    rests = (c.exact proper).became ∙ rw (accepts.1, said)

    pub opened : (r ≡ R.Opened) × Inv p Proper state_of Fits bytes (after_call Open w s' image' table' r) (note_open done b)
    opened =
        let f = image-follows r w.medium w.image image' c.image agrees in (
          opens,
          record {
            agrees = f.0;
            sized = f.1 ∙ sized;
            held = ((c.exact proper).fits, refl, rw (rests, opens, c.sized) (sized, refl, refl, now-stands, refl));
          },
        )

  -- where an opening may come the medium stands
  may-open : (w : World S) (b : Book) (lent : Option (Lent S)) → HeldAt p Proper state_of Fits bytes lent w b → w.unfinished ≡ false → Either p bytes w.least b w.medium
  may-open w b none h idle = h
  may-open w b (some l) h idle = go (state_of l.session) h.2
    where
      go : (σ : State) → Holds p bytes w.least w.unfinished b σ w.medium → Either p bytes w.least b w.medium
      go Closed x = absurd x
      go (Rest y z t items) x = inl (laws.abandon-stands n w.least b.register b.staged items w.medium x.3)
      go (Busy y z t items task rest) x = absurd (false-true (sym idle ∙ x.2))
      go (Formatting o z t rest) x = absurd x

  -- A POWER CUT leaves a medium that stands, with the batch in hand dropped or done.
  module _ (least : ℕ) (m : Medium) (chooses : ℕ → ℕ) where
    stands-cut : (C : ℕ → Held) (tray : List Item) (items : List Entry) → Standing p n least C tray items m → Standing p n least C [] [] (settled_at (cut chooses m))
    stands-cut C tray items h = ⊎_elim (λ x. x) (λ x. x) (laws.cut_stands n least C C m chooses (laws.stand-cuts n least C tray items m h))

    going-cut : (C D : ℕ → Held) (tray : List Item) (items : List Entry) (rest : List Action) → Going p n least C D tray items rest m
        → Standing p n least C [] [] (settled_at (cut chooses m)) ⊎ Standing p n least D [] [] (settled_at (cut chooses m))
    going-cut C D tray items [] h = inr (stands-cut D tray items h)
    going-cut C D tray items (a ∷ rest) h = laws.cut_stands n least C D m chooses h.0

    state-cut : (u : Bool) (b : Book) (σ : State) → Holds p bytes least u b σ m → Either p bytes least b (settled_at (cut chooses m))
    state-cut u b Closed h = absurd h
    state-cut u b (Rest y z t items) h = inl (stands-cut b.register b.staged items h.3)
    state-cut u b (Busy y z t items task rest) h = going-cut b.register (done_batch b.in-flight b.register) b.staged (items_then task items) rest h.3
    state-cut u b (Formatting o z t rest) h = absurd h

  held_cut : (w : World S) (b : Book) (lent : Option (Lent S)) (chooses : ℕ → ℕ) → HeldAt p Proper state_of Fits bytes lent w b → Either p bytes w.least b (settled_at (cut chooses w.medium))
  held_cut w b none chooses (inl h) = inl (stands-cut w.least w.medium chooses (note_open false b).register [] [] h)
  held_cut w b none chooses (inr h) = inr (stands-cut w.least w.medium chooses (note_open true b).register [] [] h)
  held_cut w b (some l) chooses h = state-cut w.least w.medium chooses w.unfinished b (state_of l.session) h.2

  pub cut-kept : (w : World S) (b : Book) (chooses : ℕ → ℕ) (image' : List ℕ) → words_of image' ≡ cut chooses w.medium → length image' ≡ length w.image
      → Inv p Proper state_of Fits bytes w b → Inv p Proper state_of Fits bytes (after_cut w chooses image') (note_cut b)
  cut-kept w b chooses image' e long i = record {
    agrees = e ∙ sym (W.latest-settled (cut chooses w.medium));
    sized = long ∙ i.sized;
    held = held_cut w b w.lent chooses i.held;
  }

  module _ (whole : bytes ≡ 8 * base p (chunks_in p bytes)) (Then : World S → Book → Type 0) (sound : (w : World S) (b : Book) → Inv p Proper state_of Fits bytes w b → Then w b) where
    pub opening-claim : (w : World S) (b : Book) (s s' : S) (image' table table' : List ℕ) (r : Report) → Inv p Proper state_of Fits bytes w b → MayOpen Proper w s table
        → Called Proper state_of Fits Open s s' w.image image' table table' r → AreBytes image' → Opens Proper state_of Fits Then w b s' image' table' r
    opening-claim w b s s' image' table table' r i may c small = ⊎_elim (with-batch false) (with-batch true) (may-open w b w.lent i.held may.0)
      where
        with-batch : (done : Bool) → StandsBy p bytes w.least (note_open done b) [] w.medium → Opens Proper state_of Fits Then w b s' image' table' r
        with-batch done h =
            let j : (r ≡ R.Opened) × Inv p Proper state_of Fits bytes (after_call Open w s' image' table' r) (note_open done b) = opened whole w b done s s' image' table table' r i.agrees i.sized h may.1.1 may.1.0 c in (
              j.0,
              (
                done,
                (
                  λ k s'' table'' r'' d. looks k (after_call Open w s' image' table' r) (note_open done b) s' s'' image' table' table'' r'' j.1 (refl, refl) d small (rw j.0 refl),
                  sound (after_call Open w s' image' table' r) (note_open done b) j.1,
                ),
              ),
            )
