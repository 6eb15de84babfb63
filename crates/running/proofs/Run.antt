-- Runs made longer in front, and what a report that tells of no store leaves.
-- Assumes nothing.
use mathlib.Core.Path.{◌≡◌, refl}
use mathlib.Core.Bool.{true, false}
use mathlib.Core.List.{List}
use Prim.Native.Nat.{ℕ, suc}
use Rattle.spec.specs.Machine.{Step}
use Rattle.spec.specs.Contract.{Changed}
use Rattle.session.specs.declared.Session.{Session}
use Rattle.spec.specs.declared.Report.{Report}
use Rattle.spec.specs.declared.Report.TheVariants as R
use Rattle.theory_base.proofs.Lists.{not-both}
use Rattle.running.specs.Run.{Runs, is_store}
use Rattle.session.specs.Promise.{Does, memory}

-- one step that stored a word, before a run
pub stored-first : {s s₁ s' : Session} {bytes bytes₁ bytes' table table₁ table' : List ℕ} {w v : ℕ} {r : Report}
    → Does Step (memory s bytes table) (memory s₁ bytes₁ table₁) (R.Store w v) → Runs (memory s₁ bytes₁ table₁) (memory s' bytes' table') r
    → Runs (memory s bytes table) (memory s' bytes' table') r
stored-first {s} {s₁} {s'} {bytes} {bytes₁} {bytes'} {table} {table₁} q (n, ran) = (suc n, (memory s₁ bytes₁ table₁, (_, (_, (q, ran)))))

-- a report that tells of a store
pub store_is : (r : Report) → is_store r ≡ true → (w : ℕ) × ((v : ℕ) × (r ≡ R.Store w v))
store_is (R.Refused n) h = absurd (not-both false h refl)
store_is (R.Begun a) h = absurd (not-both false h refl)
store_is (R.Store w v) h = (w, (v, refl))
store_is (R.Flush l) h = absurd (not-both false h refl)
store_is R.Fence h = absurd (not-both false h refl)
store_is (R.End n) h = absurd (not-both false h refl)
store_is R.Idle h = absurd (not-both false h refl)
store_is R.Opened h = absurd (not-both false h refl)
store_is R.Abandoned h = absurd (not-both false h refl)
store_is (R.Chosen c) h = absurd (not-both false h refl)
store_is (R.Part a n v) h = absurd (not-both false h refl)

-- one that tells of none, and so of no change
pub unchanged : (r : Report) (bytes : List ℕ) → is_store r ≡ false → Changed r bytes bytes
unchanged (R.Refused n) bytes h = refl
unchanged (R.Begun a) bytes h = refl
unchanged (R.Store w v) bytes h = absurd (not-both true refl h)
unchanged (R.Flush l) bytes h = refl
unchanged R.Fence bytes h = refl
unchanged (R.End n) bytes h = refl
unchanged R.Idle bytes h = refl
unchanged R.Opened bytes h = refl
unchanged R.Abandoned bytes h = refl
unchanged (R.Chosen c) bytes h = refl
unchanged (R.Part a n v) bytes h = refl
