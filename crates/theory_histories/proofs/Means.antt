-- Demand 2, from the invariant of demand 3: with no call unfinished the book's register is what the image means, every
-- call keeps the invariant, and at a call's end the batch in hand is done.
-- Assumes nothing.
use native.Mathlib.Omega.{arith}
use Rattle.std.proofs.lemmas.Bool.Decides.{nat_tests}
use mathlib.Core.Path.{◌≡◌, refl, sym, ◌∙◌, ap}
use mathlib.Core.Bool.{Bool, true, false}
use mathlib.Core.Logic.{inl, inr, ⊎_elim}
use mathlib.Core.Option.{Option, none, some}
use mathlib.Core.List.{List, [], ◌∷◌, ◌++◌}
use Prim.Native.Nat.{ℕ, ◌*◌}
use lib.Dec.{eqb}
use lib.ListN.{length}
use Rattle.spec.specs.Basics.{pick, both, is_empty}
use Rattle.spec.specs.Words.{words_of, AreBytes}
use Rattle.spec.specs.Places.{is_power, base, chunks_in, size_allowed}
use Rattle.spec.specs.Header.{header_power}
use Rattle.spec.specs.Actions.{format_of}
use Rattle.spec.specs.Medium.{Medium, latest, settled_at}
use Rattle.spec.specs.Log.{Entry}
use Rattle.spec.specs.Contents.{Held, contents}
use Rattle.spec.specs.Reports.{medium_after, is_refused}
use Rattle.spec.specs.Machine.{Call, Format, Open, Put, Delete, Commit, Abandon, LookUp, Choose, Clean, Step, State, Closed, Rest, Busy, Formatting, gate, items_of, gated, refused_by, is_unfinished, is_opening, kind_of, step_answer, answer}
use Rattle.spec.specs.Book.{Item, Book, new_book, nothing, done_item, done_items, done_batch, note}
use Rattle.spec.specs.Contract.{Changed, Refuses, Called}
use Rattle.spec.specs.History.{meant, World, SameLent, Stands, Stepped, after_call, world}
use Rattle.spec.specs.Means.{does, MayBegin, Untouching, Right, Along, AsCallsLeft, Demand2}
use Rattle.spec.specs.Basics.{Given}
use Rattle.spec.specs.declared.Refusal.{Refusal}
use Rattle.spec.specs.declared.Refusal.TheVariants as N
use Rattle.spec.specs.declared.Report.{Report}
use Rattle.spec.specs.declared.Report.TheVariants as R
use Rattle.theory_base.proofs.Places.{size-allowed}
use Rattle.theory_base.proofs.Words as W
use Rattle.theory_plans.specs.Standing.{Standing}
use Rattle.theory_plans.specs.Laws.{Laws}
use Rattle.theory_histories.proofs.Kept.{Holds}
use Rattle.theory_histories.proofs.Events as E
use Rattle.theory_histories.proofs.Invariant.{Either, HeldAt, Inv, false-true}
use Rattle.theory_histories.proofs.Starts as Start
use Rattle.theory_histories.proofs.Theorem as T

-- WHAT STANDS is what the image means.
pub stand-means : (p n table : ℕ) (C : ℕ → Held) (tray : List Item) (items : List Entry) (m : Medium) → Standing p n table C tray items m → (k : ℕ) → contents p n (latest m) k ≡ C k
unfolding contents
stand-means p n table C tray items m s k = grind (arith, nat_tests)

-- and of the image's bytes, by the power that its header says
pub image-means : (p : ℕ) → Laws p → (bytes table : ℕ) (C : ℕ → Held) (tray : List Item) (items : List Entry) (m : Medium) (image : List ℕ) → words_of image ≡ latest m → length image ≡ bytes
    → Standing p (chunks_in p bytes) table C tray items m → (k : ℕ) → meant image k ≡ C k
image-means p laws bytes table C tray items m image agrees sized s k =
    let said : header_power (latest m) ≡ p = laws.stand-power (chunks_in p bytes) table C tray items m s in
    rw (agrees, sized, said) (stand-means p (chunks_in p bytes) table C tray items m s k)

-- items done in order on equal registers
done-same : (is : List Item) (C D : ℕ → Held) → ((k : ℕ) → C k ≡ D k) → (k : ℕ) → done_items is C k ≡ done_items is D k
done-same [] C D h k = h k
done-same (i ∷ is) C D h k = done-same is (done_item i C) (done_item i D) (λ j. ap (λ (x : Held). pick (eqb i.key j) i.gets x) (h j)) k

-- a step keeps what the batch in hand is to make of the register
done-noted : (r : Report) (b : Book) → done_batch (note Step r b).in-flight (note Step r b).register ≡ done_batch b.in-flight b.register
done-noted r b = grind (arith, nat_tests)

-- what the gate lets begin
begun-passed : (g : Option Refusal) (a : ℕ) → ((r : Report) → refused_by g ≡ some r → R.Begun a ≡ r) → g ≡ none
begun-passed none a f = refl
begun-passed (some n) a f = absurd (false-true (ap is_refused (f (R.Refused n) refl)))

abbrev is_none : Option Refusal → Bool
is_none none = true
is_none (some n) = false

gate-busy : (same : Bool) → pick same (some N.Unfinished) (some N.ImageLength) ≡ none → ⊥
gate-busy true e = false-true (ap is_none e)
gate-busy false e = false-true (ap is_none e)

-- the image's change, where no store is reported
abbrev is_store : Report → Bool
is_store (R.Refused n) = false
is_store (R.Begun a) = false
is_store (R.Store w v) = true
is_store (R.Flush l) = false
is_store R.Fence = false
is_store (R.End n) = false
is_store R.Idle = false
is_store R.Opened = false
is_store R.Abandoned = false
is_store (R.Chosen c) = false
is_store (R.Part a n v) = false

unchanged : (r : Report) (image image' : List ℕ) → is_store r ≡ false → Changed r image image' → image' ≡ image
unchanged (R.Refused n) image image' e c = c
unchanged (R.Begun a) image image' e c = c
unchanged (R.Store w v) image image' e c = absurd (false-true (sym e))
unchanged (R.Flush l) image image' e c = c
unchanged R.Fence image image' e c = c
unchanged (R.End n) image image' e c = c
unchanged R.Idle image image' e c = c
unchanged R.Opened image image' e c = c
unchanged R.Abandoned image image' e c = c
unchanged (R.Chosen d) image image' e c = c
unchanged (R.Part a n v) image image' e c = c

pick-quiet : (t : Bool) (r q : Report) → is_store r ≡ false → is_store q ≡ false → is_store (pick t r q) ≡ false
pick-quiet true r q x y = x
pick-quiet false r q x y = y

gated-quiet : (g : Option Refusal) (r : Report) → is_store r ≡ false → is_store (gated g r) ≡ false
gated-quiet none r e = e
gated-quiet (some n) r e = refl

rest-quiet : (σ : State) (x y : ℕ) → is_unfinished σ ≡ false → is_store (step_answer σ x y) ≡ false
rest-quiet Closed x y e = refl
rest-quiet (Rest z l t items) x y e = refl
rest-quiet (Busy z l t items task rest) x y e = absurd (false-true (sym e))
rest-quiet (Formatting o l t rest) x y e = absurd (false-true (sym e))

-- WHAT WRITES NOTHING: every call but a step reports no store, whatever memory holds; nor does a step with no call
-- unfinished.
module _ {S : Type 0} (Proper : S → Type 0) (state_of : S → State) (Fits : S → List ℕ → List ℕ → Type 0) (s s' : S) (image image' table table' : List ℕ) (r : Report) where
  silent : (q : Report) → r ≡ q → is_store q ≡ false → is_store r ≡ false
  silent q e f = rw e f

  refused : Refuses r → is_store r ≡ false
  refused q = silent (R.Refused q.0) q.1 refl

  writes-none : (k : Call) (u : Bool) → (u ≡ false → is_unfinished (state_of s) ≡ false) → Untouching k u → Called Proper state_of Fits k s s' image image' table table' r → is_store r ≡ false
  writes-none (Format p a b) u idle t c =
      silent (answer (Format p a b) (state_of s) (words_of image) (length image) (length table)) c.anyway.0
      (pick-quiet (size_allowed p (length image)) (pick (is_unfinished (state_of s)) (R.Refused N.Unfinished) (R.Begun (length (format_of p (chunks_in p (length image)) a b)))) (R.Refused N.ImageLength)
      (pick-quiet (is_unfinished (state_of s)) (R.Refused N.Unfinished) (R.Begun (length (format_of p (chunks_in p (length image)) a b))) refl refl) refl)
  writes-none Open u idle t c = ⊎_elim refused (λ q. silent R.Opened q.0 refl) c.anyway
  writes-none (Put x k v) u idle t c = ⊎_elim refused (λ q. silent (R.Begun (length q.0)) q.1.1 refl) c.anyway
  writes-none (Delete x k) u idle t c = ⊎_elim refused (λ q. silent (R.Begun (length q.0)) q.1.1 refl) c.anyway
  writes-none Commit u idle t c = ⊎_elim refused (λ q. silent (R.Begun (length q.0)) q.1.1 refl) c.anyway
  writes-none Abandon u idle t c =
      silent (answer Abandon (state_of s) (words_of image) (length image) (length table)) c.anyway.0
      (gated-quiet (gate (state_of s) (length image) (length table)) (pick (is_empty (items_of (state_of s))) (R.Refused N.NothingStaged) R.Abandoned)
      (pick-quiet (is_empty (items_of (state_of s))) (R.Refused N.NothingStaged) R.Abandoned refl refl))
  writes-none (LookUp k) u idle t c = ⊎_elim refused (λ q. silent (R.Part q.0 q.1.0 q.1.1.0) q.1.1.1.0 refl) c.anyway
  writes-none Choose u idle t c = ⊎_elim refused (λ q. silent (R.Chosen q.0) q.1.0 refl) c.anyway
  writes-none (Clean k) u idle t c = ⊎_elim refused (λ q. silent (R.Begun (length q.0)) q.1.1 refl) c.anyway
  writes-none Step u idle t c = silent (step_answer (state_of s) (length image) (length table)) c.anyway.0 (rest-quiet (state_of s) (length image) (length table) (idle t))

module _ {S : Type 0} (Proper : S → Type 0) (state_of : S → State) (Fits : S → List ℕ → List ℕ → Type 0) where
  -- the same steps on another medium
  pub restep : (rs : List Report) (m m' o : Medium) (s s' : S) (image image' table table' : List ℕ) → Stepped Proper state_of Fits rs m s image table m' s' image' table'
      → (o' : Medium) × Stepped Proper state_of Fits rs o s image table o' s' image' table'
  restep [] m m' o s s' image image' table table' e = (o, (refl, e.1))
  restep (r ∷ rs) m m' o s s' image image' table table' (s₁, (image₁, (table₁, (c, rest)))) =
      let q = restep rs (medium_after r m) m' (medium_after r o) s₁ s' image₁ image' table₁ table' rest in
      (q.0, (s₁, (image₁, (table₁, (c, q.1)))))

module _ (every : (q : ℕ) → is_power q ≡ true → Laws q) (p : ℕ) (power : is_power p ≡ true) {S : Type 0} (Proper : S → Type 0) (state_of : S → State) (Fits : S → List ℕ → List ℕ → Type 0) where
  abbrev laws : Laws p
  laws = every p power

  -- A FORMATTING to its end leaves an image that means an empty register.
  format-does : (v : ℕ) (station centre : Given) (s s₀ s' : S) (image image' table table₀ table' : List ℕ) (a n : ℕ) (rs : List Report) (m m' : Medium)
      → Called Proper state_of Fits (Format v station centre) s s₀ image image table table₀ (R.Begun a)
      → Stepped Proper state_of Fits (rs ++ (R.End n ∷ [])) m s₀ image table₀ m' s' image' table' → (key : ℕ) → meant image' key ≡ nothing key
  format-does v station centre s s₀ s' image image' table table₀ table' a n rs m m' c steps key =
      let begun = Start.format-begins Proper state_of Fits (settled_at (words_of image)) s s₀ image table table₀ v station centre a (sym (W.latest-settled (words_of image))) c in
      let there = (size-allowed v (length image) begun.0).0 in
      let q = restep Proper state_of Fits (rs ++ (R.End n ∷ [])) m m' (settled_at (words_of image)) s₀ s' image image' table₀ table' steps in
      let i = Start.format-start v there (every v there) Proper state_of Fits (settled_at (words_of image)) q.0 s s₀ s' image image' table table₀ table' station centre a n rs (sym (W.latest-settled (words_of image))) c q.1 in
      go there q.0 i.1.agrees i.1.sized i.1.held
    where
      go : is_power v ≡ true → (o : Medium) → words_of image' ≡ latest o → length image' ≡ length image → Either v (length image) 0 (new_book nothing) o → meant image' key ≡ nothing key
      go there o e l (inl h) = image-means v (every v there) (length image) 0 nothing [] [] o image' e l h key
      go there o e l (inr h) = image-means v (every v there) (length image) 0 nothing [] [] o image' e l h key

  module _ (bytes : ℕ) (whole : bytes ≡ 8 * base p (chunks_in p bytes)) where
    module _ (w : World S) (b : Book) (s : S) (table : List ℕ) (i : Inv p Proper state_of Fits bytes w b) (same : SameLent w.lent s table) where
      pub held : HeldAt p Proper state_of Fits bytes (some (record { session = s; table = table })) w b
      held = E.same-lent p power laws Proper state_of Fits bytes w b w.lent s table same i.held

      -- AT REST no batch is in hand, and the book's register is what the image means.
      rested : is_unfinished (state_of s) ≡ false → (b.in-flight ≡ none) × ((k : ℕ) → meant w.image k ≡ b.register k)
      rested e = go (state_of s) held.2 e
        where
          go : (σ : State) → Holds p bytes w.least w.unfinished b σ w.medium → is_unfinished σ ≡ false → (b.in-flight ≡ none) × ((k : ℕ) → meant w.image k ≡ b.register k)
          go Closed h e = absurd h
          go (Rest z l t items) h e = (h.2, λ k. image-means p laws bytes w.least b.register b.staged items w.medium w.image i.agrees i.sized h.3 k)
          go (Busy z l t items task rest) h e = absurd (false-true (sym e))
          go (Formatting o l t rest) h e = absurd h

      pub idle-rests : w.unfinished ≡ false → is_unfinished (state_of s) ≡ false
      idle-rests idle = go (state_of s) held.2
        where
          go : (σ : State) → Holds p bytes w.least w.unfinished b σ w.medium → is_unfinished σ ≡ false
          go Closed h = refl
          go (Rest z l t items) h = refl
          go (Busy z l t items task rest) h = absurd (false-true (sym idle ∙ h.2))
          go (Formatting o l t rest) h = absurd h

      gate-rests : (x y : ℕ) → gate (state_of s) x y ≡ none → is_unfinished (state_of s) ≡ false
      gate-rests x y = go (state_of s) held.2
        where
          go : (σ : State) → Holds p bytes w.least w.unfinished b σ w.medium → gate σ x y ≡ none → is_unfinished σ ≡ false
          go Closed h e = refl
          go (Rest z l t items) h e = refl
          go (Busy z l t items task rest) h e = absurd (gate-busy (both (eqb l x) (eqb t y)) e)
          go (Formatting o l t rest) h e = absurd h

      -- with no call unfinished
      means : w.unfinished ≡ false → (k : ℕ) → meant w.image k ≡ b.register k
      means idle = (rested (idle-rests idle)).1

      -- what was let begin was begun at rest
      begun-at-rest : (a : ℕ) → ((r : Report) → refused_by (gate (state_of s) (length w.image) (length table)) ≡ some r → R.Begun a ≡ r)
          → (b.in-flight ≡ none) × ((k : ℕ) → meant w.image k ≡ b.register k)
      begun-at-rest a f = rested (gate-rests (length w.image) (length table) (begun-passed (gate (state_of s) (length w.image) (length table)) a f))

    abbrev Kept : Call → World S → Book → S → List ℕ → List ℕ → Report → Type 0
    Kept k w b s' image' table' r = Inv p Proper state_of Fits bytes (after_call k w s' image' table' r) (note k r b)

    -- EVERY CALL but an opening and an accepted formatting keeps the invariant.
    kept : (k : Call) (w : World S) (b : Book) (s s' : S) (image' table table' : List ℕ) (r : Report) → Inv p Proper state_of Fits bytes w b → SameLent w.lent s table
        → Called Proper state_of Fits k s s' w.image image' table table' r → AreBytes image' → Stands k r → is_opening (kind_of k) ≡ false → Kept k w b s' image' table' r
    kept (Format v x y) w b s s' image' table table' r i l c small st o = T.call p power laws Proper state_of Fits bytes whole (Inv p Proper state_of Fits bytes) (λ w b i. i) (Format v x y) w b i s s' image' table table' r l c small st
    kept Open w b s s' image' table table' r i l c small st o = absurd (false-true (sym o))
    kept (Put x k v) w b s s' image' table table' r i l c small st o = T.call p power laws Proper state_of Fits bytes whole (Inv p Proper state_of Fits bytes) (λ w b i. i) (Put x k v) w b i s s' image' table table' r l c small st
    kept (Delete x k) w b s s' image' table table' r i l c small st o = T.call p power laws Proper state_of Fits bytes whole (Inv p Proper state_of Fits bytes) (λ w b i. i) (Delete x k) w b i s s' image' table table' r l c small st
    kept Commit w b s s' image' table table' r i l c small st o = T.call p power laws Proper state_of Fits bytes whole (Inv p Proper state_of Fits bytes) (λ w b i. i) Commit w b i s s' image' table table' r l c small st
    kept Abandon w b s s' image' table table' r i l c small st o = T.call p power laws Proper state_of Fits bytes whole (Inv p Proper state_of Fits bytes) (λ w b i. i) Abandon w b i s s' image' table table' r l c small st
    kept (LookUp k) w b s s' image' table table' r i l c small st o = (T.call p power laws Proper state_of Fits bytes whole (Inv p Proper state_of Fits bytes) (λ w b i. i) (LookUp k) w b i s s' image' table table' r l c small st).1
    kept Choose w b s s' image' table table' r i l c small st o = T.call p power laws Proper state_of Fits bytes whole (Inv p Proper state_of Fits bytes) (λ w b i. i) Choose w b i s s' image' table table' r l c small st
    kept (Clean k) w b s s' image' table table' r i l c small st o = T.call p power laws Proper state_of Fits bytes whole (Inv p Proper state_of Fits bytes) (λ w b i. i) (Clean k) w b i s s' image' table table' r l c small st
    kept Step w b s s' image' table table' r i l c small st o = T.call p power laws Proper state_of Fits bytes whole (Inv p Proper state_of Fits bytes) (λ w b i. i) Step w b i s s' image' table table' r l c small st

    -- a step does so on any image
    stepped : (w : World S) (b : Book) (s s' : S) (image' table table' : List ℕ) (r : Report) → Inv p Proper state_of Fits bytes w b → SameLent w.lent s table
        → Called Proper state_of Fits Step s s' w.image image' table table' r → Kept Step w b s' image' table' r
    stepped w b s s' image' table table' r i l c = E.usual-kept p power laws Proper state_of Fits bytes Step w b s s' image' table table' r i l c (T.usual-step p power laws Proper state_of Fits bytes whole)

    -- A CALL TO ITS END: the batch in hand is done on the register.
    to_end : (rs : List Report) (n : ℕ) (w : World S) (b : Book) (s s' : S) (image' table table' : List ℕ) (m m' : Medium) → Inv p Proper state_of Fits bytes w b → SameLent w.lent s table
        → Stepped Proper state_of Fits (rs ++ (R.End n ∷ [])) m s w.image table m' s' image' table' → (key : ℕ) → meant image' key ≡ done_batch b.in-flight b.register key
    to_end [] n w b s s' image' table table' m m' i l (s₁, (image₁, (table₁, (c, rest)))) key =
        rw rest.1.1.0 (means (after_call Step w s₁ image₁ table₁ (R.End n)) (note Step (R.End n) b) s₁ table₁ (stepped w b s s₁ image₁ table table₁ (R.End n) i l c) (refl, refl) refl key)
    to_end (r ∷ rs) n w b s s' image' table table' m m' i l (s₁, (image₁, (table₁, (c, rest)))) key =
        to_end rs n (after_call Step w s₁ image₁ table₁ r) (note Step r b) s₁ s' image' table₁ table' (medium_after r m) m' (stepped w b s s₁ image₁ table table₁ r i l c) (refl, refl) rest key
        ∙ ap (λ (C : ℕ → Held). C key) (done-noted r b)

    module _ (w : World S) (b : Book) (s s₀ s' : S) (image' table table₀ table' : List ℕ) (a n : ℕ) (rs : List Report) (m m' : Medium) (i : Inv p Proper state_of Fits bytes w b)
        (same : SameLent w.lent s table) (small : AreBytes w.image) (steps : Stepped Proper state_of Fits (rs ++ (R.End n ∷ [])) m s₀ w.image table₀ m' s' image' table') where
      -- a begun call to its end, by what the book makes of its begin
      ends_by : (k : Call) → Called Proper state_of Fits k s s₀ w.image w.image table table₀ (R.Begun a) → Stands k (R.Begun a) → is_opening (kind_of k) ≡ false
          → (key : ℕ) → meant image' key ≡ done_batch (note k (R.Begun a) b).in-flight (note k (R.Begun a) b).register key
      ends_by k c st o =
          to_end rs n (after_call k w s₀ w.image table₀ (R.Begun a)) (note k (R.Begun a) b) s₀ s' image' table₀ table' m m'
          (kept k w b s s₀ w.image table table₀ (R.Begun a) i same c small st o) (refl, refl) steps

      -- no batch in hand: the register stays
      stays : (b.in-flight ≡ none) × ((k : ℕ) → meant w.image k ≡ b.register k) → (key : ℕ) → done_batch b.in-flight b.register key ≡ meant w.image key
      stays q key = rw q.0 (sym (q.1 key))

      ends : (k : Call) → MayBegin k → Called Proper state_of Fits k s s₀ w.image w.image table table₀ (R.Begun a)
          → (key : ℕ) → meant image' key ≡ does k b.staged (meant w.image) key
      ends (Format v x y) may c key = format-does v x y s s₀ s' w.image image' table table₀ table' a n rs m m' c steps key
      ends Open may c key = absurd may
      ends (Put x k v) may c key = ends_by (Put x k v) c may refl key ∙ stays (begun-at-rest w b s table i same a c.first) key
      ends (Delete x k) may c key = ends_by (Delete x k) c tt refl key ∙ stays (begun-at-rest w b s table i same a c.first) key
      ends Commit may c key =
          ends_by Commit c tt refl key ∙ done-same b.staged b.register (meant w.image) (λ k. sym ((begun-at-rest w b s table i same a c.first).1 k)) key
      ends Abandon may c key = absurd may
      ends (LookUp k) may c key = absurd may
      ends Choose may c key = absurd may
      ends (Clean k) may c key = ends_by (Clean k) c tt refl key ∙ stays (begun-at-rest w b s table i same a c.first) key
      ends Step may c key = absurd may

    right : (w : World S) (b : Book) (s : S) (table : List ℕ) → Inv p Proper state_of Fits bytes w b → SameLent w.lent s table → AreBytes w.image
        → Right Proper state_of Fits b w.unfinished s w.image table
    right w b s table i l small = record {
      booked = means w b s table i l;
      looks = λ idle k s' table' r c. E.looks p power laws Proper state_of Fits bytes k w b s s' w.image table table' r i l c small idle ∙ ap some (sym (means w b s table i l idle k));
      ends = λ k s₀ s' image' table₀ table' a n rs m m' may c steps. ends w b s s₀ s' image' table table₀ table' a n rs m m' i l small steps k may c;
      keeps = λ k s' image' table' r u c. unchanged r w.image image' (writes-none Proper state_of Fits s s' w.image image' table table' r k w.unfinished (idle-rests w b s table i l) u c) c.image;
    }

    along : (P : Book → Bool → S → List ℕ → List ℕ → Type 0)
        → ((w : World S) (b : Book) (s : S) (table : List ℕ) → Inv p Proper state_of Fits bytes w b → SameLent w.lent s table → AreBytes w.image → P b w.unfinished s w.image table)
        → (ks : List Call) (w : World S) (b : Book) (s : S) (table : List ℕ) → Inv p Proper state_of Fits bytes w b → SameLent w.lent s table → AreBytes w.image
        → Along Proper state_of Fits P ks b w.unfinished s w.image table
    along P sound [] w b s table i l small = sound w b s table i l small
    along P sound (k ∷ ks) w b s table i l small = λ s' image' table' r c small' st o.
        along P sound ks (after_call k w s' image' table' r) (note k r b) s' table' (kept k w b s s' image' table table' r i l c small' st o) (refl, refl) small'

-- WHAT THE INVARIANT SHOWS holds of memory as our calls left it.
module _ (every : (q : ℕ) → is_power q ≡ true → Laws q) {S : Type 0} (Proper : S → Type 0) (state_of : S → State) (Fits : S → List ℕ → List ℕ → Type 0) where
  pub as-calls-left : (P : Book → Bool → S → List ℕ → List ℕ → Type 0)
      → ((p : ℕ) → is_power p ≡ true → (bytes : ℕ) → bytes ≡ 8 * base p (chunks_in p bytes) → (w : World S) (b : Book) (s : S) (table : List ℕ) → Inv p Proper state_of Fits bytes w b → SameLent w.lent s table → AreBytes w.image
      → P b w.unfinished s w.image table)
      → AsCallsLeft Proper state_of Fits P
  as-calls-left P sound calls s s' image table table' small proper c =
      let p = header_power (words_of image) in
      let there = T.opened-power Proper state_of Fits s s' image table table' proper c in
      let i = Start.opening-start p there (every p there) Proper state_of Fits s s' image table table' refl proper c in
      along every p there Proper state_of Fits (length image) i.0 P (sound p there (length image) i.0) calls (world Proper state_of Fits (settled_at (words_of image)) image (some (record { session = s'; table = table' })) (length table'))
      (new_book (meant image)) s' table' i.1 (refl, refl) small

  pub demand2 : Demand2 Proper state_of Fits
  demand2 = as-calls-left (Right Proper state_of Fits) (λ p there. right every p there Proper state_of Fits)
