-- Reprints while a call is unfinished: what look-up answers between the steps of a staging, a commit or a cleaning.
-- What a call does is `Called`, the very predicate that each public function ensures.
-- Assumes nothing.
use Rattle.std.specs.Prelude.{◌≡◌, false, List, [], ◌∷◌, ◌++◌, ℕ, ◌≤◌, ◌<◌, length}
use Rattle.std.proofs.Math.Option.{Option, none, some}
use Rattle.spec.specs.Words.{words_of, AreBytes}
use Rattle.spec.specs.Medium.{Medium, cut, settled_at, latest}
use Rattle.spec.specs.Machine.{Call, Format, Open, Put, Delete, Commit, Abandon, LookUp, Choose, Clean, Step, State}
use Rattle.spec.specs.Book.{Book, new_book, nothing}
use Rattle.spec.specs.Contract.{Called, part_bytes}
use Rattle.spec.specs.History.{Event, Lent, World, Claim, meant_by, meant, Stepped, Shows, world}
use Rattle.spec.specs.Means.{AsCallsLeft}
use Rattle.spec.specs.Basics.{Given}
use Rattle.spec.specs.declared.Report.{Report}
use Rattle.spec.specs.declared.Report.TheVariants as R

-- the calls in which look-up answers; a value is bytes
abbrev pub MayRead : Call → Type 0
MayRead (Format p x y) = ⊥
MayRead Open = ⊥
MayRead (Put x k v) = AreBytes v
MayRead (Delete x k) = Unit {0}
MayRead Commit = Unit {0}
MayRead Abandon = ⊥
MayRead (LookUp k) = ⊥
MayRead Choose = ⊥
MayRead (Clean c) = Unit {0}
MayRead Step = ⊥

-- those of them that fence
abbrev pub Fences : Call → Type 0
Fences (Format p x y) = ⊥
Fences Open = ⊥
Fences (Put x k v) = ⊥
Fences (Delete x k) = ⊥
Fences Commit = Unit {0}
Fences Abandon = ⊥
Fences (LookUp k) = ⊥
Fences Choose = ⊥
Fences (Clean c) = Unit {0}
Fences Step = ⊥

-- n of a call's `a` actions are reported, and not yet its last fence, which is the last of them; a staging has none, so
-- that all of its actions may be
abbrev pub Early : Call → ℕ → ℕ → Type 0
Early (Format p x y) n a = n < a
Early Open n a = n < a
Early (Put x k v) n a = n ≤ a
Early (Delete x k) n a = n ≤ a
Early Commit n a = n < a
Early Abandon n a = n < a
Early (LookUp k) n a = n < a
Early Choose n a = n < a
Early (Clean c) n a = n < a
Early Step n a = n < a

module _ {S : Type 0} (Proper : S → Type 0) (state_of : S → State) (Fits : S → List ℕ → List ℕ → Type 0) where
  -- A CALL BEGUN with `a` actions, and some of its steps. Before it look-up of a key answers r.
  pub record Reprints (s : S) (image table : List ℕ) : Type 0 where
    -- until the last fence is reported look-up gives that very answer, the old place included, and the part that was
    -- handed out is unaltered
    pub before : (k : Call) (key : ℕ) (s₀ s' : S) (image' table₀ table' : List ℕ) (a : ℕ) (rs : List Report) (m m' : Medium) (r r' : Report)
        → MayRead k → AreBytes image'
        → Called Proper state_of Fits (LookUp key) s s image image table table r
        → Called Proper state_of Fits k s s₀ image image table table₀ (R.Begun a)
        → Stepped Proper state_of Fits rs m s₀ image table₀ m' s' image' table' → Early k (length rs) a
        → Called Proper state_of Fits (LookUp key) s' s' image' image' table' table' r'
        → (r' ≡ r) × (part_bytes r image' ≡ part_bytes r image)
    -- from then on it gives the answer that it gives after the reported end
    pub after : (k : Call) (key : ℕ) (s₀ s₁ s₂ : S) (image₁ image₂ table₀ table₁ table₂ : List ℕ) (a n : ℕ) (rs : List Report) (m m₁ : Medium) (r₁ r₂ : Report)
        → MayRead k → Called Proper state_of Fits k s s₀ image image table table₀ (R.Begun a)
        → Stepped Proper state_of Fits rs m s₀ image table₀ m₁ s₁ image₁ table₁ → length rs ≡ a
        → Called Proper state_of Fits Step s₁ s₂ image₁ image₂ table₁ table₂ (R.End n)
        → Called Proper state_of Fits (LookUp key) s₁ s₁ image₁ image₁ table₁ table₁ r₁
        → Called Proper state_of Fits (LookUp key) s₂ s₂ image₂ image₂ table₂ table₂ r₂
        → r₁ ≡ r₂
    -- the last action of a commit and of a cleaning is a fence
    pub fenced : (k : Call) (s₀ s₁ : S) (image₁ table₀ table₁ : List ℕ) (a : ℕ) (rs : List Report) (m m₁ : Medium)
        → Fences k → Called Proper state_of Fits k s s₀ image image table table₀ (R.Begun a)
        → Stepped Proper state_of Fits rs m s₀ image table₀ m₁ s₁ image₁ table₁ → length rs ≡ a
        → (xs : List Report) × (rs ≡ xs ++ (R.Fence ∷ []))
    -- a staging reports none
    pub unfenced : (k : Call) (s₀ s₁ : S) (image₁ table₀ table₁ : List ℕ) (a : ℕ) (rs : List Report) (m m₁ : Medium)
        → MayRead k → (Fences k → ⊥) → Called Proper state_of Fits k s s₀ image image table table₀ (R.Begun a)
        → Stepped Proper state_of Fits rs m s₀ image table₀ m₁ s₁ image₁ table₁ → length rs ≤ a
        → (xs ys : List Report) → rs ≡ xs ++ (R.Fence ∷ ys) → ⊥

  -- of memory as our calls left it, with no call unfinished
  -- R88
  abbrev pub Reprinted : Type 0
  Reprinted = AsCallsLeft Proper state_of Fits (λ b u s image table. u ≡ false → Reprints s image table)

  -- BETWEEN STEPS, and wherever a list of calls and power cuts of demand 3 leads: what look-up shows with record and
  -- table as the last call left them is one register, and a cut at that point may leave it. (An image is bytes.)
  abbrev pub OneOfTheCuts : Option (Lent S) → World S → Type 0
  OneOfTheCuts none w = Unit {0}
  OneOfTheCuts (some l) w =
      AreBytes w.image → (chooses : ℕ → ℕ) × Shows Proper state_of Fits l.session w.image l.table (meant_by (length w.image) (cut chooses w.medium))

  abbrev pub Leads : List Event → World S → Book → Type 0
  Leads [] w b = OneOfTheCuts w.lent w
  Leads (e ∷ es) w b = Claim Proper state_of Fits e (Leads es) w b

  -- from both starts of demand 3
  abbrev pub FromFormat : List Event → Type 0
  FromFormat events =
      (m m' : Medium) (s s₀ s' : S) (image image' table table₀ table' : List ℕ) (p : ℕ) (station centre : Given) (a n : ℕ) (rs : List Report)
      → words_of image ≡ latest m → Proper s
      → Called Proper state_of Fits (Format p station centre) s s₀ image image table table₀ (R.Begun a)
      → Stepped Proper state_of Fits (rs ++ (R.End n ∷ [])) m s₀ image table₀ m' s' image' table' → AreBytes image'
      → Leads events (world Proper state_of Fits m' image' none 0) (new_book nothing)

  abbrev pub FromOpening : List Event → Type 0
  FromOpening events =
      (s s' : S) (image table table' : List ℕ) → AreBytes image → Proper s → Called Proper state_of Fits Open s s' image image table table' R.Opened
      → Leads events (world Proper state_of Fits (settled_at (words_of image)) image (some (record { session = s'; table = table' })) (length table')) (new_book (meant image))

  -- R89
  abbrev pub AlwaysACut : Type 0
  AlwaysACut = (events : List Event) → FromFormat events × FromOpening events
