-- A RUN IS A LIST OF STEPS of the theorem on histories: `Runs`, which the call that takes several steps ensures, says
-- the same as `Stepped`, the very steps of demand 3, with reports that each store a word and then the one that is told.
-- And the fast path is a step, a run, or nothing. The calls that only read (counts, lists, look-ups, choosings) leave
-- record, image and table alone by their types.
-- Assumes nothing.
use mathlib.Core.Path.{refl}
use mathlib.Core.Logic.{◌⊎◌, inl, inr}
use mathlib.Core.List.{List, [], ◌∷◌, ◌++◌}
use Prim.Native.Nat.{ℕ, zero, suc}
use Rattle.spec.specs.Medium.{Medium}
use Rattle.spec.specs.Reports.{medium_after}
use Rattle.spec.specs.History.{Stepped}
use Rattle.session.specs.declared.Control.{Control}
use Rattle.session.specs.declared.Setup.{Setup}
use Rattle.spec.specs.declared.Report.{Report}
use Rattle.spec.specs.declared.Report.TheVariants as R
use Rattle.session.specs.State.{state_of}
use Rattle.session.specs.Fits.{Fits}
use Rattle.running.specs.Fast.{Idles, HereIn, OnFastPath}
use Rattle.running.specs.Run.{Ran, Runs}
use Rattle.session.specs.Fits.{Proper}
use Rattle.session.specs.Promise.{Memory}

-- reports that each tell of a store
pub data AllStores : List Report → Type 0 where
  none : AllStores []
  one : (w v : ℕ) (rs : List Report) → AllStores rs → AllStores (R.Store w v ∷ rs)

abbrev pub Steps : (m m' : Memory) → Report → Medium → Type 0
Steps m m' r o =
    (rs : List Report) × (AllStores rs × ((o' : Medium) × Stepped Proper state_of Fits (rs ++ (r ∷ [])) o m.session m.image m.table o' m'.session m'.image m'.table))

ran-steps : (n : ℕ) (m m' : Memory) (r : Report) (o : Medium) → Ran n m m' r → Steps m m' r o
ran-steps zero m m' r o q = ([], (none, (medium_after r o, (m'.session, (m'.image, (m'.table, (q, (refl, (refl, (refl, refl))))))))))
ran-steps (suc n) m m' r o (m₁, (w, (v, (q, more)))) =
    let later = ran-steps n m₁ m' r (medium_after (R.Store w v) o) more in
    (R.Store w v ∷ later.0, (one w v later.0 later.1.0, (later.1.1.0, (m₁.session, (m₁.image, (m₁.table, (q, later.1.1.1)))))))

pub runs-are-steps : (m m' : Memory) (r : Report) (o : Medium) → Runs m m' r → Steps m m' r o
runs-are-steps m m' r o (n, ran) = ran-steps n m m' r o ran

-- THE FAST PATH is a step, or a run, where it is taken; elsewhere it is no event at all: memory stays as it was.
pub fast-or-nothing : (Here : Control → Setup → (bytes words : ℕ) → Type 0) (P : (m m' : Memory) → Report → Type 0) (m m' : Memory) (r : Report)
    → OnFastPath Here P m m' r → Dec (HereIn Here m) → P m m' r ⊎ Idles m m' r
fast-or-nothing Here P m m' r f (yes h) = inl (f.within h)
fast-or-nothing Here P m m' r f (no n) = inr (f.without n)
