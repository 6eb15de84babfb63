-- Demand 3, from the laws of the calls: each event's claim, the induction over the list, the two starts put together.
-- It holds of any reading of the record as a state and of anything that `Fits` may say: only that `Called` hands them
-- on is used.
-- Assumes nothing.
use mathlib.Core.Path.{◌≡◌, refl}
use mathlib.Core.Bool.{true}
use mathlib.Core.Option.{none, some}
use mathlib.Core.List.{List, [], ◌∷◌}
use Prim.Native.Nat.{ℕ, ◌*◌}
use lib.ListN.{length}
use Rattle.spec.specs.Words.{words_of, AreBytes}
use Rattle.spec.specs.Places.{is_power, base, chunks_in}
use Rattle.spec.specs.Header.{header_power}
use Rattle.spec.specs.Medium.{settled_at}
use Rattle.spec.specs.Opening.{opening}
use Rattle.spec.specs.Machine.{Call, Format, Open, Put, Delete, Commit, Abandon, LookUp, Choose, Clean, Step, State}
use Rattle.spec.specs.Book.{Book, new_book, nothing, note, note_cut}
use Rattle.spec.specs.Contract.{Called}
use Rattle.spec.specs.History.{Event, Do, Cut, World, SameLent, Lends, Stands, after_call, after_cut, Ends, Claim, Faithful, world, meant, AfterFormat, AfterOpening, Demand3}
use Rattle.spec.specs.declared.Report.{Report}
use Rattle.spec.specs.declared.Report.TheVariants as R
use Rattle.words.specs.Image.{length-words_of}
use Rattle.theory_base.proofs.Places.{size-allowed}
use Rattle.theory_crash.proofs.Opening.{opens-ok}
use Rattle.theory_plans.specs.Laws.{Laws}
use Rattle.theory_histories.proofs.Kept as K
use Rattle.theory_histories.proofs.Events as E
use Rattle.theory_histories.proofs.Events.{Usual}
use Rattle.theory_histories.proofs.Invariant.{Inv}
use Rattle.theory_histories.proofs.Starts as Start

module _ (p : ℕ) (power : is_power p ≡ true) (laws : Laws p) {S : Type 0} (Proper : S → Type 0) (state_of : S → State) (Fits : S → List ℕ → List ℕ → Type 0) where
  module _ (bytes : ℕ) (whole : bytes ≡ 8 * base p (chunks_in p bytes)) where
    pub usual-step : Usual p power laws Proper state_of Fits bytes Step
    usual-step = record { ready = λ s ws t f. f; again = λ s ws t r f. f; least = λ t a. refl; kept = K.step_kept p laws bytes }

    module _ (Then : World S → Book → Type 0) (sound : (w : World S) (b : Book) → Inv p Proper state_of Fits bytes w b → Then w b) where
      usual : (k : Call) → Usual p power laws Proper state_of Fits bytes k → (w : World S) (b : Book) → Inv p Proper state_of Fits bytes w b → (s s' : S) (image' table table' : List ℕ) (r : Report)
          → SameLent w.lent s table → Called Proper state_of Fits k s s' w.image image' table table' r → Then (after_call k w s' image' table' r) (note k r b)
      usual k q w b i s s' image' table table' r l c =
          sound (after_call k w s' image' table' r) (note k r b) (E.usual-kept p power laws Proper state_of Fits bytes k w b s s' image' table table' r i l c q)

      pub call : (k : Call) (w : World S) (b : Book) → Inv p Proper state_of Fits bytes w b → (s s' : S) (image' table table' : List ℕ) (r : Report) → Lends Proper k w s table
          → Called Proper state_of Fits k s s' w.image image' table table' r → AreBytes image' → Stands k r → Ends Proper state_of Fits k Then w b s' image' table' r
      call (Format y a z) w b i s s' image' table table' r l c small e = sound (after_call (Format y a z) w s' image' table' r) b (E.format-kept p power laws Proper state_of Fits bytes y a z w b s s' image' table table' r i l c e)
      call Open w b i s s' image' table table' r l c small e = E.opening-claim p power laws Proper state_of Fits bytes whole Then sound w b s s' image' table table' r i l c small
      call (Put x k v) w b i s s' image' table table' r l c small e =
          usual (Put x k v) (record { ready = λ s ws t f. f; again = λ s ws t r f. f; least = λ t a. refl; kept = λ least u b m. K.put-kept p laws bytes least u b m x k v e }) w b i s s' image' table table' r l c
      call (Delete x k) w b i s s' image' table table' r l c small e =
          usual (Delete x k) (record { ready = λ s ws t f. f; again = λ s ws t r f. f; least = λ t a. refl; kept = λ least u b m. K.delete-kept p laws bytes least u b m x k }) w b i s s' image' table table' r l c
      call Commit w b i s s' image' table table' r l c small e =
          usual Commit (record { ready = λ s ws t f. f; again = λ s ws t r f. f; least = λ t a. refl; kept = K.commit-kept p laws bytes }) w b i s s' image' table table' r l c
      call Abandon w b i s s' image' table table' r l c small e =
          usual Abandon (record { ready = λ s ws t f. f; again = λ s ws t r f. f; least = λ t a. refl; kept = K.abandon-kept p laws bytes }) w b i s s' image' table table' r l c
      call (LookUp k) w b i s s' image' table table' r l c small e = (
        E.looks p power laws Proper state_of Fits bytes k w b s s' image' table table' r i l c small,
        usual (LookUp k) (record { ready = λ s ws t f. f; again = λ s ws t r f. f; least = λ t a. refl; kept = λ least u b m. K.look-kept p laws bytes least u b m k }) w b i s s' image' table table' r l c,
      )
      call Choose w b i s s' image' table table' r l c small e =
          usual Choose (record { ready = λ s ws t f. f; again = λ s ws t r f. f; least = λ t a. refl; kept = K.choose-kept p laws bytes }) w b i s s' image' table table' r l c
      call (Clean z) w b i s s' image' table table' r l c small e =
          usual (Clean z) (record { ready = λ s ws t f. f; again = λ s ws t r f. f; least = λ t a. refl; kept = λ least u b m. K.clean-kept p laws bytes least u b m z }) w b i s s' image' table table' r l c
      call Step w b i s s' image' table table' r l c small e =
          usual Step usual-step w b i s s' image' table table' r l c

      pub claim : (e : Event) (w : World S) (b : Book) → Inv p Proper state_of Fits bytes w b → Claim Proper state_of Fits e Then w b
      claim (Do k) w b i = call k w b i
      claim (Cut chooses) w b i = λ image' small e long. sound (after_cut w chooses image') (note_cut b) (E.cut-kept p power laws Proper state_of Fits bytes w b chooses image' e long i)

    pub faithful : (events : List Event) (w : World S) (b : Book) → Inv p Proper state_of Fits bytes w b → Faithful Proper state_of Fits events w b
    faithful [] w b i = tt
    faithful (e ∷ events) w b i = claim (Faithful Proper state_of Fits events) (faithful events) e w b i

-- the power of an accepted image
pub opened-power : {S : Type 0} (Proper : S → Type 0) (state_of : S → State) (Fits : S → List ℕ → List ℕ → Type 0) (s s' : S) (image table table' : List ℕ) → Proper s
    → Called Proper state_of Fits Open s s' image image table table' R.Opened → is_power (header_power (words_of image)) ≡ true
opened-power Proper state_of Fits s s' image table table' proper c =
    let o = Start.opened-accepts (opening (length image) (words_of image) (length table)) (c.exact proper).answered in
    (opens-ok (length image) (length table) (words_of image) o.0 (length-words_of image) o.1).3

-- Demand 3, of the laws at every power that there is: a formatting is told one, and an accepted header says one.
module _ (every : (p : ℕ) → is_power p ≡ true → Laws p) {S : Type 0} (Proper : S → Type 0) (state_of : S → State) (Fits : S → List ℕ → List ℕ → Type 0) where
  after-format : (events : List Event) → AfterFormat Proper state_of Fits events
  after-format events m m' s s₀ s' image image' table table₀ table' p station centre a n rs agrees proper c steps small =
      let q = size-allowed p (length image) (Start.format-begins Proper state_of Fits m s s₀ image table table₀ p station centre a agrees c).0 in
      let i = Start.format-start p q.0 (every p q.0) Proper state_of Fits m m' s s₀ s' image image' table table₀ table' station centre a n rs agrees c steps in
      faithful p q.0 (every p q.0) Proper state_of Fits (length image) i.0 events (world Proper state_of Fits m' image' none 0) (new_book nothing) i.1

  after-opening : (events : List Event) → AfterOpening Proper state_of Fits events
  after-opening events s s' image table table' small proper c =
      let p = header_power (words_of image) in
      let q = opened-power Proper state_of Fits s s' image table table' proper c in
      let i = Start.opening-start p q (every p q) Proper state_of Fits s s' image table table' refl proper c in
      faithful p q (every p q) Proper state_of Fits (length image) i.0 events (world Proper state_of Fits (settled_at (words_of image)) image (some (record { session = s'; table = table' })) (length table'))
      (new_book (meant image)) i.1

  pub demand3 : Demand3 Proper state_of Fits
  demand3 events = (after-format events, after-opening events)
