-- A power cut in a formatting: after any number of its steps the medium is one that the law of its action list speaks
-- of.
-- Assumes nothing.
use mathlib.Core.Path.{◌≡◌, refl, sym, ◌∙◌, ap}
use mathlib.Core.Logic.{◌⊎◌, inl, inr}
use mathlib.Core.Bool.{Bool, true, false}
use mathlib.Core.Option.{none}
use mathlib.Core.List.{List, [], ◌∷◌}
use Prim.Native.Nat.{ℕ, ◌*◌, ◌/◌, ◌≤◌}
use native.Mathlib.Omega.{arith}
use lib.ListN.{length}
use Rattle.spec.specs.Words.{words_of, AreBytes}
use Rattle.spec.specs.Places.{is_power, base, chunks_in, length_allowed, size_allowed}
use Rattle.spec.specs.Medium.{Medium, Action, latest, settled_at, CanCutTo}
use Rattle.spec.specs.Contents.{capacity}
use Rattle.spec.specs.Actions.{format_of}
use Rattle.spec.specs.Reports.{medium_after}
use Rattle.spec.specs.Machine.{Format, Open, State, Closed, Formatting, is_open}
use Rattle.spec.specs.Book.{new_book, nothing, note_open}
use Rattle.spec.specs.Contract.{Called}
use Rattle.spec.specs.History.{World, Stepped, Shows, world, after_call}
use Rattle.spec.specs.FormatCut.{Old, Empty, FormatCut, FormatCutAmong}
use Rattle.spec.specs.Basics.{Given}
use Rattle.spec.specs.declared.Refusal.TheVariants as N
use Rattle.spec.specs.declared.Report.{Report}
use Rattle.spec.specs.declared.Report.TheVariants as R
use Rattle.theory_base.proofs.Words.{can-cut, can-is-cut}
use Rattle.theory_base.proofs.Places.{length-allowed, power-bounds, size-allowed, allowed-size}
use Rattle.theory_base.proofs.Through.{Through}
use Rattle.theory_crash.specs.Rest.{Holds, Rests, NoRegister, FormatCuts, empty}
use Rattle.theory_crash.proofs.Rest.{stays-cut}
use Rattle.theory_crash.proofs.Crash.{holds-rests}
use Rattle.theory_crash.proofs.Format.{format-through}
use Rattle.theory_plans.specs.Standing.{Standing}
use Rattle.theory_plans.specs.Laws.{Laws}
use Rattle.theory_plans.proofs.Between.{rests-stand}
use Rattle.theory_base.proofs.Words as W
use Rattle.theory_histories.proofs.Invariant as I
use Rattle.theory_histories.proofs.Invariant.{Inv}
use Rattle.theory_histories.proofs.Events as E
use Rattle.theory_histories.proofs.Starts as Start

-- what holds before each action, and after the last one
through-first : (B A : Medium → Type 0) → ((m : Medium) → A m → B m) → (acts : List Action) (m : Medium) → Through B A acts m → B m
through-first B A weaker [] m h = weaker m h
through-first B A weaker (a ∷ acts) m h = h.0

module _ (p : ℕ) (power : is_power p ≡ true) (laws : Laws p) {S : Type 0} (Proper : S → Type 0) (state_of : S → State) (Fits : S → List ℕ → List ℕ → Type 0) where
  -- steps with nothing unfinished do nothing
  idle-walk : (rs : List Report) (m m' : Medium) (s s' : S) (image image' table table' : List ℕ) → state_of s ≡ Closed
      → Stepped Proper state_of Fits rs m s image table m' s' image' table' → m' ≡ m
  idle-walk [] m m' s s' image image' table table' e q = q.0
  idle-walk (r ∷ rs) m m' s s' image image' table table' e (s₁, (image₁, (table₁, (c, rest)))) =
      let d = Start.idle-step Proper state_of Fits s s₁ image image₁ table table₁ r e c in
      idle-walk rs (medium_after r m) m' s₁ s' image₁ image' table₁ table' d.1 rest ∙ ap (λ (x : Report). medium_after x m) d.0

  -- ANY NUMBER OF STEPS of a formatting keep what its action list keeps.
  part-walk : (B A : Medium → Type 0) → ((m : Medium) → A m → B m) → (l t : ℕ) (o : Bool) (acts : List Action) (rs : List Report) (m m' : Medium) (s s' : S) (image image' table table' : List ℕ)
      → state_of s ≡ Formatting o l t acts → l ≡ length image → t ≡ length table → Through B A acts m
      → Stepped Proper state_of Fits rs m s image table m' s' image' table' → B m'
  part-walk B A weaker l t o acts [] m m' s s' image image' table table' e x y h q = rw q.0 (through-first B A weaker acts m h)
  part-walk B A weaker l t o [] (r ∷ rs) m m' s s' image image' table table' e x y h (s₁, (image₁, (table₁, (c, rest)))) =
      let d = Start.format-step Proper state_of Fits o [] s s₁ image image₁ table table₁ r l t e x y c in
      let still : m' ≡ m = idle-walk rs (medium_after r m) m' s₁ s' image₁ image' table₁ table' d.1 rest ∙ ap (λ (x : Report). medium_after x m) d.0 in
      rw still (weaker m h)
  part-walk B A weaker l t o (a ∷ acts) (r ∷ rs) m m' s s' image image' table table' e x y h (s₁, (image₁, (table₁, (c, rest)))) =
      let d = Start.format-step Proper state_of Fits o (a ∷ acts) s s₁ image image₁ table table₁ r l t e x y c in
      part-walk B A weaker l t o acts rs (medium_after r m) m' s₁ s' image₁ image' table₁ table' d.1 (x ∙ sym (I.same_length r image image₁ c.image)) (y ∙ sym c.sized) (rw (d.0, Start.next-medium Proper state_of Fits a m) h.1) rest

  -- AN EMPTY REGISTER opens with any table, and look-up then says 11 for every key.
  empty-opens : (image : List ℕ) → AreBytes image → length image ≡ 8 * base p (chunks_in p (length image)) → Standing p (chunks_in p (length image)) 0 nothing [] [] (settled_at (words_of image))
      → (t t' : S) (table table' : List ℕ) (r : Report) → Proper t → Called Proper state_of Fits Open t t' image image table table' r → Empty Proper state_of Fits t' image table' r
  empty-opens image small whole stands t t' table table' r proper c = (
    j.0,
    λ k s'' table'' r'' d. E.looks p power laws Proper state_of Fits (length image) k (after_call Open before t' image table' r) (new_book nothing) t' s'' image table' table'' r'' j.1 (refl, refl) d small (rw j.0 refl),
  )
    where
      before : World S
      before = world Proper state_of Fits (settled_at (words_of image)) image none 0

      j : (r ≡ R.Opened) × Inv p Proper state_of Fits (length image) (after_call Open before t' image table' r) (new_book nothing)
      j = E.opened p power laws Proper state_of Fits (length image) whole before (new_book nothing) false t t' image table table' r (sym (W.latest-settled (words_of image))) refl stands (omega arith) proper c

module _ (every : (p : ℕ) → is_power p ≡ true → Laws p) {S : Type 0} (Proper : S → Type 0) (state_of : S → State) (Fits : S → List ℕ → List ℕ → Type 0) where
  -- a new register that rests is cut to an empty one
  rests-cut : (p : ℕ) → 12 ≤ p → p ≤ 16 → (n : ℕ) (m₀ m : Medium) → Rests p n 0 empty m → FormatCuts p n m₀ m
  rests-cut p lo hi n m₀ m h xs t = inr (inr (stays-cut p lo hi n 0 empty empty m h.0 xs t))

  module _ (m m' : Medium) (s s₀ s₁ : S) (image image₁ table table₀ table₁ : List ℕ) (p : ℕ) (station centre : Given) (a : ℕ) (rs : List Report) (agrees : words_of image ≡ latest m)
      (c : Called Proper state_of Fits (Format p station centre) s s₀ image image table table₀ (R.Begun a)) (steps : Stepped Proper state_of Fits rs m s₀ image table₀ m' s₁ image₁ table₁) where
    abbrev n : ℕ
    n = chunks_in p (length image)

    started : (size_allowed p (length image) ≡ true) × (length m ≡ length image / 8) × (state_of s₀ ≡ Formatting (is_open (state_of s)) (length image) (length table) (format_of p n station centre))
    started = Start.format-begins Proper state_of Fits m s s₀ image table table₀ p station centre a agrees c

    allowed : (is_power p ≡ true) × (length_allowed p (length image) ≡ true)
    allowed = size-allowed p (length image) started.0

    power : is_power p ≡ true
    power = allowed.0

    lo : 12 ≤ p
    lo = (power-bounds p power).0

    hi : p ≤ 16
    hi = (power-bounds p power).1

    whole : length image ≡ 8 * base p n
    whole = (length-allowed p lo hi (length image) allowed.1).2

    cuts : FormatCuts p n m m'
    cuts =
        let u = length-allowed p lo hi (length image) allowed.1 in
        let q = started.1 in
        let e = whole in
        let size : length m ≡ base p n = omega arith in
        part-walk p power (every p power) Proper state_of Fits (FormatCuts p n m) (Rests p n 0 empty) (λ m₁. rests-cut p lo hi n m m₁) (length image) (length table) (is_open (state_of s)) (format_of p n station centre) rs m m' s₀ s₁ image image₁ table₀ table₁
        started.2 refl (sym c.sized) (format-through p lo hi n u.0 u.1 station centre m size) steps

    -- the first opening of what a cut leaves
    opens : (image' : List ℕ) → AreBytes image' → length image' ≡ length image → (t t' : S) (table₂ table₃ : List ℕ) (r : Report) → Proper t
        → Called Proper state_of Fits Open t t' image' image' table₂ table₃ r
        → CanCutTo m (words_of image') ⊎ (NoRegister (words_of image') ⊎ Holds p n 0 empty (words_of image'))
        → Old Proper state_of Fits m image' table₂ r ⊎ ((r ≡ R.Refused N.NotOpen) ⊎ Empty Proper state_of Fits t' image' table₃ r)
    opens image' small long t t' table₂ table₃ r proper d (inl x) = inl (x, (d.exact proper).answered)
    opens image' small long t t' table₂ table₃ r proper d (inr (inl x)) = inr (inl ((d.exact proper).answered ∙ rw (x (length image') (length table₂) (rw long (allowed-size p (length image) power allowed.1).1))))
    opens image' small long t t' table₂ table₃ r proper d (inr (inr x)) =
        inr (inr (empty-opens p power (every p power) Proper state_of Fits image' small (rw long whole) (rw long (rests-stand p n 0 nothing (settled_at (words_of image')) (wider (holds-rests p n 0 empty (words_of image') x)))) t t' table₂ table₃ r proper d))
      where
        wider : Rests p n 0 empty (settled_at (words_of image')) → Rests p n (capacity 0) nothing (settled_at (words_of image'))
        wider ((ws, es, q, few, h), fl) = ((ws, es, q, omega arith, h), fl)

  pub format-cut : FormatCut Proper state_of Fits
  format-cut m m' s s₀ s₁ image image₁ table table₀ table₁ p station centre a rs agrees c steps chooses image' small words long t t' table₂ table₃ r proper d =
      opens m m' s s₀ s₁ image image₁ table table₀ table₁ p station centre a rs agrees c steps image' small long t t' table₂ table₃ r proper d
      (cuts m m' s s₀ s₁ image image₁ table table₀ table₁ p station centre a rs agrees c steps (words_of image') (rw words (can-cut chooses m')))

  -- what demand 3 says of a cut just before it says what the old image opens with
  pub format-cut-among : FormatCutAmong Proper state_of Fits
  format-cut-among w b faithful agrees m' s s₀ s₁ image₁ table table₀ table₁ p station centre a rs c steps chooses image' small words long t t' table₂ table₃ r proper larger d =
      go (format-cut w.medium m' s s₀ s₁ w.image image₁ table table₀ table₁ p station centre a rs agrees c steps chooses image' small words long t t' table₂ table₃ r proper d)
    where
      go : Old Proper state_of Fits w.medium image' table₂ r ⊎ ((r ≡ R.Refused N.NotOpen) ⊎ Empty Proper state_of Fits t' image' table₃ r)
          → ((r ≡ R.Opened) × ((done : Bool) × Shows Proper state_of Fits t' image' table₃ (note_open done b).register))
          ⊎ ((r ≡ R.Refused N.NotOpen) ⊎ Empty Proper state_of Fits t' image' table₃ r)
      go (inr q) = inr q
      go (inl q) =
          let before = can-is-cut w.medium (words_of image') q.0 in
          let o = faithful before.0 image' small (sym before.1) long t t' image' table₂ table₃ r (refl, (proper, larger)) d small tt in
          inl (o.0, (o.1.0, o.1.1.0))
