-- The two starts: what holds right after the reported end of a formatting, and right after the opening that accepted an
-- image.
-- Assumes nothing.
use native.Mathlib.Omega.{arith}
use Rattle.std.proofs.lemmas.Bool.Decides.{nat_tests}
use mathlib.Core.Path.{◌≡◌, refl, sym, ◌∙◌, ap}
use mathlib.Core.Logic.{inl}
use mathlib.Core.Bool.{Bool, true, false}
use mathlib.Core.Option.{none, some}
use mathlib.Core.List.{List, [], ◌∷◌, ◌++◌}
use Prim.Native.Nat.{ℕ, ◌*◌, ◌/◌}
use native.Mathlib.Nat.{le_refl}
use lib.ListN.{length}
use Rattle.spec.specs.Basics.{pick, both}
use Rattle.spec.specs.Words.{words_of}
use Rattle.spec.specs.Places.{is_power, base, chunks_in, size_allowed}
use Rattle.spec.specs.Header.{header_power}
use Rattle.spec.specs.Medium.{Medium, Action, Store, Flush, Fence, apply, latest, settled_at}
use Rattle.spec.specs.Log.{Entry}
use Rattle.spec.specs.Contents.{contents}
use Rattle.spec.specs.Opening.{Opening, Refused, Accepted, opening}
use Rattle.spec.specs.Actions.{format_of}
use Rattle.spec.specs.Reports.{as_report, medium_after, is_refused}
use Rattle.spec.specs.Machine.{Format, Open, Step, State, Closed, Formatting, opened, is_open, next_report, stepped, answer, next}
use Rattle.spec.specs.Book.{new_book, nothing, is_end}
use Rattle.spec.specs.Contract.{Called}
use Rattle.spec.specs.History.{World, Stepped, world}
use Rattle.spec.specs.Basics.{Given}
use Rattle.spec.specs.declared.Report.{Report}
use Rattle.spec.specs.declared.Report.TheVariants as R
use Rattle.words.specs.Image.{length-words_of}
use Rattle.theory_base.proofs.Words as W
use Rattle.theory_base.proofs.Places.{size-allowed}
use Rattle.theory_base.proofs.Through.{Through}
use Rattle.theory_plans.specs.Standing.{Standing}
use Rattle.theory_plans.specs.Laws.{Laws, Anything}
use Rattle.theory_histories.proofs.Events as E
use Rattle.theory_histories.proofs.Invariant as I
use Rattle.theory_histories.proofs.Invariant.{Inv}

-- an opening that answered so accepted the image
pub opened-accepts : (o : Opening) → R.Opened ≡ opened o → (es : List Entry) × (o ≡ Accepted es)
opened-accepts (Refused n) e = absurd (I.false-true (ap is_refused e))
opened-accepts (Accepted es) e = (es, refl)

module _ {S : Type 0} (Proper : S → Type 0) (state_of : S → State) (Fits : S → List ℕ → List ℕ → Type 0) where
  -- FIRST START: steps from a formatting's begin up to a reported end have done all its actions, and nothing else.
  apart : (r r' : Report) → r ≡ r' → is_end r ≡ true → is_end r' ≡ false → ⊥
  apart r r' e x y = I.false-true (sym y ∙ ap is_end (sym e) ∙ x)

  -- one action of the formatting
  pub next-medium : (a : Action) (m : Medium) → medium_after (as_report a) m ≡ apply a m
  next-medium (Store w v) m = refl
  next-medium (Flush l) m = refl
  next-medium Fence m = refl

  next-state : (acts : List Action) (σ τ : State) → pick (both (is_refused (next_report 0 acts)) true) σ τ ≡ τ
  next-state [] σ τ = refl
  next-state (Store w v ∷ acts) σ τ = refl
  next-state (Flush l ∷ acts) σ τ = refl
  next-state (Fence ∷ acts) σ τ = refl

  next-end : (a : Action) → is_end (as_report a) ≡ false
  next-end (Store w v) = refl
  next-end (Flush l) = refl
  next-end Fence = refl

  -- a step is exact whatever record and table hold
  pub format-step : (o : Bool) (acts : List Action) (s s₁ : S) (image image₁ table table₁ : List ℕ) (r : Report) (l t : ℕ)
      → state_of s ≡ Formatting o l t acts → l ≡ length image → t ≡ length table → Called Proper state_of Fits Step s s₁ image image₁ table table₁ r
      → (r ≡ next_report 0 acts) × (state_of s₁ ≡ stepped (Formatting o l t acts))
  unfolding next
  format-step o acts s s₁ image image₁ table table₁ r l t e x y c = grind (arith, nat_tests)

  -- a record with no register open and no formatting unfinished: a step is idle
  pub idle-step : (s s₁ : S) (image image₁ table table₁ : List ℕ) (r : Report) → state_of s ≡ Closed → Called Proper state_of Fits Step s s₁ image image₁ table table₁ r
      → (r ≡ R.Idle) × (state_of s₁ ≡ Closed)
  unfolding next
  idle-step s s₁ image image₁ table table₁ r e c = (c.anyway.0 ∙ rw e, c.anyway.1 ∙ rw e)

  closed-walk : (rs : List Report) (n : ℕ) (m m' : Medium) (s s' : S) (image image' table table' : List ℕ) → state_of s ≡ Closed
      → Stepped Proper state_of Fits (rs ++ (R.End n ∷ [])) m s image table m' s' image' table' → ⊥
  closed-walk [] n m m' s s' image image' table table' e (s₁, (image₁, (table₁, (c, rest)))) = apart (R.End n) R.Idle (idle-step s s₁ image image₁ table table₁ (R.End n) e c).0 refl refl
  closed-walk (r ∷ rs) n m m' s s' image image' table table' e (s₁, (image₁, (table₁, (c, rest)))) =
      closed-walk rs n (medium_after r m) m' s₁ s' image₁ image' table₁ table' (idle-step s s₁ image image₁ table table₁ r e c).1 rest

  pub format-walk : (B A : Medium → Type 0) (l t : ℕ) (o : Bool) (acts : List Action) (rs : List Report) (n : ℕ) (m m' : Medium) (s s' : S) (image image' table table' : List ℕ)
      → state_of s ≡ Formatting o l t acts → l ≡ length image → t ≡ length table → words_of image ≡ latest m → Through B A acts m
      → Stepped Proper state_of Fits (rs ++ (R.End n ∷ [])) m s image table m' s' image' table' → A m' × (words_of image' ≡ latest m') × (length image' ≡ l)
  format-walk B A l t o [] [] n m m' s s' image image' table table' e x y g h (s₁, (image₁, (table₁, (c, rest)))) =
      let q = I.image-follows (R.End n) m image image₁ c.image g in
      rw (rest.0, rest.1.1.0) (h, q.0, q.1 ∙ sym x)
  format-walk B A l t o (a ∷ acts) [] n m m' s s' image image' table table' e x y g h (s₁, (image₁, (table₁, (c, rest)))) =
      absurd (apart (R.End n) (as_report a) (format-step o (a ∷ acts) s s₁ image image₁ table table₁ (R.End n) l t e x y c).0 refl (next-end a))
  format-walk B A l t o [] (r ∷ rs) n m m' s s' image image' table table' e x y g h (s₁, (image₁, (table₁, (c, rest)))) =
      absurd (closed-walk rs n (medium_after r m) m' s₁ s' image₁ image' table₁ table' (format-step o [] s s₁ image image₁ table table₁ r l t e x y c).1 rest)
  format-walk B A l t o (a ∷ acts) (r ∷ rs) n m m' s s' image image' table table' e x y g h (s₁, (image₁, (table₁, (c, rest)))) =
      let d = format-step o (a ∷ acts) s s₁ image image₁ table table₁ r l t e x y c in
      let q = I.image-follows r m image image₁ c.image g in
      format-walk B A l t o acts rs n (medium_after r m) m' s₁ s' image₁ image' table₁ table' d.1 (x ∙ sym q.1) (y ∙ sym c.sized) q.0 (rw (d.0, next-medium) h.1) rest

  -- a formatting that was begun
  format-begun : (p : ℕ) (station centre : Given) (σ τ : State) (a bytes table : ℕ) (ws : List ℕ) → R.Begun a ≡ answer (Format p station centre) σ ws bytes table
      → τ ≡ next (Format p station centre) σ ws bytes table → (size_allowed p bytes ≡ true) × (τ ≡ Formatting (is_open σ) bytes table (format_of p (chunks_in p bytes) station centre))
  unfolding next
  format-begun p station centre σ τ a bytes table ws e f = grind (arith, nat_tests)

  -- the formatting's begin, which is exact whatever record and table hold
  pub format-begins : (m : Medium) (s s₀ : S) (image table table₀ : List ℕ) (p : ℕ) (station centre : Given) (a : ℕ) → words_of image ≡ latest m
      → Called Proper state_of Fits (Format p station centre) s s₀ image image table table₀ (R.Begun a)
      → (size_allowed p (length image) ≡ true) × (length m ≡ length image / 8)
      × (state_of s₀ ≡ Formatting (is_open (state_of s)) (length image) (length table) (format_of p (chunks_in p (length image)) station centre))
  format-begins m s s₀ image table table₀ p station centre a agrees c =
      let f = format-begun p station centre (state_of s) (state_of s₀) a (length image) (length table) (words_of image) c.anyway.0 c.anyway.1 in
      (f.0, sym (W.length-latest m) ∙ ap length (sym agrees) ∙ length-words_of image, f.1)

module _ (p : ℕ) (power : is_power p ≡ true) (laws : Laws p) {S : Type 0} (Proper : S → Type 0) (state_of : S → State) (Fits : S → List ℕ → List ℕ → Type 0) where
  pub format-start : (m m' : Medium) (s s₀ s' : S) (image image' table table₀ table' : List ℕ) (station centre : Given) (a n : ℕ) (rs : List Report)
      → words_of image ≡ latest m → Called Proper state_of Fits (Format p station centre) s s₀ image image table table₀ (R.Begun a)
      → Stepped Proper state_of Fits (rs ++ (R.End n ∷ [])) m s₀ image table₀ m' s' image' table'
      → (length image ≡ 8 * base p (chunks_in p (length image))) × Inv p Proper state_of Fits (length image) (world Proper state_of Fits m' image' none 0) (new_book nothing)
  format-start m m' s s₀ s' image image' table table₀ table' station centre a n rs agrees c steps =
      (made.1, record { agrees = walked.1; sized = walked.2; held = inl walked.0 })
    where
      started : (size_allowed p (length image) ≡ true) × (length m ≡ length image / 8)
          × (state_of s₀ ≡ Formatting (is_open (state_of s)) (length image) (length table) (format_of p (chunks_in p (length image)) station centre))
      started = format-begins Proper state_of Fits m s s₀ image table table₀ p station centre a agrees c

      made : Through Anything (Standing p (chunks_in p (length image)) 0 nothing [] []) (format_of p (chunks_in p (length image)) station centre) m × (length image ≡ 8 * base p (chunks_in p (length image)))
      made = laws.format-stands (length image) 0 m station centre (size-allowed p (length image) started.0).1 started.1

      walked : Standing p (chunks_in p (length image)) 0 nothing [] [] m' × (words_of image' ≡ latest m') × (length image' ≡ length image)
      walked = format-walk Proper state_of Fits Anything (Standing p (chunks_in p (length image)) 0 nothing [] []) (length image) (length table) (is_open (state_of s)) (format_of p (chunks_in p (length image)) station centre) rs n m m' s₀ s' image image' table₀ table'
          started.2 refl (sym c.sized) agrees made.0 steps

  -- SECOND START. The image was accepted, so the opening was that of a medium that stands.
  pub opening-start : (s s' : S) (image table table' : List ℕ) → header_power (words_of image) ≡ p → Proper s → Called Proper state_of Fits Open s s' image image table table' R.Opened
      → (length image ≡ 8 * base p (chunks_in p (length image)))
      × Inv p Proper state_of Fits (length image) (world Proper state_of Fits (settled_at (words_of image)) image (some (record { session = s'; table = table' })) (length table'))
      (new_book (contents p (chunks_in p (length image)) (words_of image)))
  opening-start s s' image table table' said proper c = (
    stands.1,
    (E.opened p power laws Proper state_of Fits (length image) stands.1 before (new_book (contents p (chunks_in p (length image)) (words_of image))) false s s' image table table' R.Opened
        (sym (W.latest-settled (words_of image))) refl stands.0 (le_refl (length table)) proper c).1,
  )
    where
      before : World S
      before = world Proper state_of Fits (settled_at (words_of image)) image none (length table)

      found : (es : List Entry) × (opening (length image) (words_of image) (length table) ≡ Accepted es)
      found = opened-accepts (opening (length image) (words_of image) (length table)) (c.exact proper).answered

      stands : Standing p (chunks_in p (length image)) (length table) (contents p (chunks_in p (length image)) (words_of image)) [] [] (settled_at (words_of image)) × (length image ≡ 8 * base p (chunks_in p (length image)))
      stands = laws.accepted-stands (length image) (length table) (words_of image) found.0 (length-words_of image) said found.1
