-- Closing changes nothing, from `Called` alone: answer and next state are functions of the state, the image's words and
-- the lengths, and the report is the image's whole change. So a station at rest and the same image just opened stay
-- alike, whatever record and table hold. Of `Fits` it is asked that a record that fits is one of its type, and that an
-- image that fits at rest is accepted.
-- Assumes nothing.
use mathlib.Core.Path.{◌≡◌, refl, sym, ◌∙◌, ap}
use mathlib.Core.Bool.{Bool, true, false}
use mathlib.Core.Option.{some}
use mathlib.Core.List.{List, [], ◌∷◌, map}
use Prim.Native.Nat.{ℕ, ◌*◌}
use native.Mathlib.Omega.{arith}
use lib.ListN.{length}
use Rattle.spec.specs.Words.{words_of, AreBytes}
use Rattle.spec.specs.Places.{is_power, base, chunks_in}
use Rattle.spec.specs.Header.{header_power}
use Rattle.spec.specs.Log.{Entry}
use Rattle.spec.specs.Opening.{Accepted, opening}
use Rattle.spec.specs.Reports.{is_refused}
use Rattle.spec.specs.Machine.{Call, Format, Open, Put, Delete, Commit, Abandon, LookUp, Choose, Clean, Step, State, Closed, Rest, Busy, Formatting, is_unfinished, next}
use Rattle.spec.specs.Contract.{Changed, Ready, Exact, Called}
use Rattle.spec.specs.Book.{Item, Book}
use Rattle.spec.specs.History.{World, SameLent}
use Rattle.spec.specs.Reopening.{Same, Alike, Reopens, Reopened, ReopenedAfter}
use Rattle.spec.specs.declared.Report.{Report}
use Rattle.spec.specs.declared.Report.TheVariants as R
use Rattle.theory_plans.specs.Standing.{item_of}
use Rattle.theory_plans.specs.Laws.{Laws}
use Rattle.theory_histories.proofs.Kept.{Holds}
use Rattle.theory_histories.proofs.Invariant as I
use Rattle.theory_histories.proofs.Invariant.{HeldAt, Inv}
use Rattle.theory_histories.proofs.Means as M
use Rattle.theory_histories.proofs.Bytes.{same_bytes}

-- The same report on the same image leaves the same image.
changed-same : (r : Report) (image a b : List ℕ) → AreBytes a → AreBytes b → Changed r image a → Changed r image b → a ≡ b
changed-same (R.Refused n) image a b small also c d = c ∙ sym d
changed-same (R.Begun n) image a b small also c d = c ∙ sym d
changed-same (R.Store w v) image a b small also (words, sized, odd) (words', sized', odd') = same_bytes a b small also (words ∙ sym words') (odd ∙ sym odd')
changed-same (R.Flush l) image a b small also c d = c ∙ sym d
changed-same R.Fence image a b small also c d = c ∙ sym d
changed-same (R.End n) image a b small also c d = c ∙ sym d
changed-same R.Idle image a b small also c d = c ∙ sym d
changed-same R.Opened image a b small also c d = c ∙ sym d
changed-same R.Abandoned image a b small also c d = c ∙ sym d
changed-same (R.Chosen n) image a b small also c d = c ∙ sym d
changed-same (R.Part x n v) image a b small also c d = c ∙ sym d

module _ {S : Type 0} (Proper : S → Type 0) (state_of : S → State) (Fits : S → List ℕ → List ℕ → Type 0) (proper : (s : S) (ws table : List ℕ) → Fits s ws table → Proper s) where
  ready : (k : Call) (s : S) (ws table : List ℕ) → Fits s ws table → Ready Proper state_of Fits k s ws table
  ready (Format p a b) s ws table f = proper s ws table f
  ready Open s ws table f = proper s ws table f
  ready (Put x k v) s ws table f = f
  ready (Delete x k) s ws table f = f
  ready Commit s ws table f = f
  ready Abandon s ws table f = f
  ready (LookUp k) s ws table f = f
  ready Choose s ws table f = f
  ready (Clean c) s ws table f = f
  ready Step s ws table f = f

  -- MEMORY FITS AGAIN after every call; a refused formatting leaves it as it was.
  fits-again : (k : Call) (s s' : S) (image image' table table' : List ℕ) (r : Report) → Fits s (words_of image) table → Called Proper state_of Fits k s s' image image' table table' r
      → Fits s' (words_of image') table'
  fits-again (Format p a b) s s' image image' table table' r f c = go (is_refused r) refl
    where
      go : (t : Bool) → is_refused r ≡ t → Fits s' (words_of image') table'
      go false e = (c.exact (proper s (words_of image) table f)).fits e
      go true e =
          let q = I.refused-is r e in
          let o = rw q.1 at c.outcome in
          let i : image' ≡ image = rw q.1 at c.image in
          rw (o.1.0, o.1.1, i) f
  fits-again Open s s' image image' table table' r f c = (c.exact (proper s (words_of image) table f)).fits
  fits-again (Put x k v) s s' image image' table table' r f c = (c.exact f).fits
  fits-again (Delete x k) s s' image image' table table' r f c = (c.exact f).fits
  fits-again Commit s s' image image' table table' r f c = (c.exact f).fits
  fits-again Abandon s s' image image' table table' r f c = (c.exact f).fits
  fits-again (LookUp k) s s' image image' table table' r f c = (c.exact f).fits
  fits-again Choose s s' image image' table table' r f c = (c.exact f).fits
  fits-again (Clean x) s s' image image' table table' r f c = (c.exact f).fits
  fits-again Step s s' image image' table table' r f c = (c.exact f).fits

  -- WHAT TWO STATIONS SHARE is kept by every call.
  pub alike : (ks : List Call) (s t : S) (image other table beside : List ℕ) → Same Proper state_of Fits s t image other table beside
      → Alike Proper state_of Fits ks s t image other table beside
  alike [] s t image other table beside w = w
  alike (k ∷ ks) s t image other table beside w = λ s' t' image' other' table' beside' r q small small' c d.
      let x : Exact Proper state_of Fits k s s' image image' table table' r = c.exact (ready k s (words_of image) table w.fits) in
      let y : Exact Proper state_of Fits k t t' other other' beside beside' q = d.exact (ready k t (words_of other) beside w.also) in
      let e : r ≡ q = x.answered ∙ rw (w.state, w.bytes, w.lengths) (sym y.answered) in
      let i : image' ≡ other' = changed-same r image image' other' small small' c.image (rw (e, w.bytes) d.image) in (
        e,
        (
          i,
          alike ks s' t' image' other' table' beside' (record {
            state = x.became ∙ rw (w.state, w.bytes, w.lengths) (sym y.became);
            bytes = i;
            lengths = c.sized ∙ w.lengths ∙ sym d.sized;
            fits = fits-again k s s' image image' table table' r w.fits c;
            also = fits-again k t t' other other' beside beside' q w.also d;
          }),
        ),
      )

  -- A STATION AT REST, on an image that opening accepts with a table as long, and the same image opened.
  reopens : (s : S) (image table : List ℕ) (es : List Entry) → opening (length image) (words_of image) (length table) ≡ Accepted es
      → Fits s (words_of image) table → state_of s ≡ Rest (header_power (words_of image)) (length image) (length table) [] → Reopens Proper state_of Fits s image table
  unfolding next
  reopens s image table es a f rests t t' lent table' r q same c =
      let x : Exact Proper state_of Fits Open t t' image image lent table' r = c.exact q in (
        x.answered ∙ rw (same, a),
        λ calls. alike calls s t' image image table table' (record {
          state = rests ∙ sym (x.became ∙ rw (same, a));
          bytes = refl;
          lengths = sym same ∙ sym c.sized;
          fits = f;
          also = x.fits;
        }),
      )

  pub reopened : ((s : S) (ws table : List ℕ) (p bytes : ℕ) → Fits s ws table → state_of s ≡ Rest p bytes (length table) [] → (header_power ws ≡ p) × ((es : List Entry) × (opening bytes ws (length table) ≡ Accepted es)))
      → Reopened Proper state_of Fits
  reopened accepted s p image table small f rests =
      let a = accepted s (words_of image) table p (length image) f rests in
      reopens s image table a.1.0 a.1.1 f (rests ∙ ap (λ (y : ℕ). Rest y (length image) (length table) []) (sym a.0))

  -- By what the calls answered: with no call unfinished and an empty tray the station is at rest, and what stands is
  -- accepted.
  module _ (every : (q : ℕ) → is_power q ≡ true → Laws q) (p : ℕ) (power : is_power p ≡ true) (bytes : ℕ) (whole : bytes ≡ 8 * base p (chunks_in p bytes)) (w : World S) (b : Book) (s : S) (table : List ℕ) (i : Inv p Proper state_of Fits bytes w b)
      (same : SameLent w.lent s table) where
    held : HeldAt p Proper state_of Fits bytes (some (record { session = s; table = table })) w b
    held = M.held every p power Proper state_of Fits bytes whole w b s table i same

    at_rest : b.staged ≡ [] → w.unfinished ≡ false
        → (state_of s ≡ Rest (header_power (words_of w.image)) (length w.image) (length table) []) × ((es : List Entry) × (opening (length w.image) (words_of w.image) (length table) ≡ Accepted es))
    at_rest empty idle = go (state_of s) held.2 (M.idle-rests every p power Proper state_of Fits bytes whole w b s table i same idle)
      where
        none-staged : (items : List Entry) (f : Entry → Item) → map f items ≡ b.staged → items ≡ []
        none-staged [] f e = refl
        none-staged (x ∷ items) f e = absurd (let z : ◌≡◌ {A = ℕ} 0 1 = cc in omega arith)

        go : (σ : State) → Holds p bytes w.least w.unfinished b σ w.medium → is_unfinished σ ≡ false
            → (σ ≡ Rest (header_power (words_of w.image)) (length w.image) (length table) []) × ((es : List Entry) × (opening (length w.image) (words_of w.image) (length table) ≡ Accepted es))
        go Closed h e = absurd h
        go (Rest z l t items) h e = (
          rw (ap header_power i.agrees ∙ (every p power).stand-power (chunks_in p bytes) w.least b.register b.staged items w.medium h.3, h.4, h.0, h.1, ← i.sized, ← held.1, none-staged items (item_of h.3.words) h.3.booked),
          rw (i.agrees, i.sized, whole, held.1) ((every p power).open-accepts (chunks_in p bytes) w.least b.register b.staged items w.medium h.3 power),
        )
        go (Busy z l t items task rest) h e = absurd (I.false-true (sym e))
        go (Formatting o l t rest) h e = absurd h

  pub reopened-after : ((q : ℕ) → is_power q ≡ true → Laws q) → ReopenedAfter Proper state_of Fits
  reopened-after every = M.as-calls-left every Proper state_of Fits (λ b u s image table. b.staged ≡ [] → u ≡ false → Reopens Proper state_of Fits s image table)
      λ p power bytes whole w b s table i same small empty idle.
      let a = at_rest every p power bytes whole w b s table i same empty idle in
      reopens s w.image table a.1.0 a.1.1 (held every p power bytes whole w b s table i same).0 a.0
