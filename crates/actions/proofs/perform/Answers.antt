-- A store saves its word; any other report does nothing.
-- Assumes nothing.
use mathlib.Core.Path.{◌≡◌, refl}
use mathlib.Core.List.{List}
use Prim.Native.Nat.{ℕ}
use Rattle.spec.specs.Contract.{Changed}
use Rattle.spec.specs.declared.Report.{Report}
use Rattle.spec.specs.declared.Report.TheVariants as R
use Rattle.actions.proofs.Performed.{changed-store}
use Rattle.actions.proofs.perform.Goals as goal

-- any report but a store
quiet : (r : Report) (bytes : List ℕ) → ((w v : ℕ) → r ≡ R.Store w v → ⊥) → Changed r bytes bytes
quiet (R.Refused n) bytes k = refl
quiet (R.Begun a) bytes k = refl
quiet (R.Store w v) bytes k = absurd (k w v refl)
quiet (R.Flush l) bytes k = refl
quiet R.Fence bytes k = refl
quiet (R.End n) bytes k = refl
quiet R.Idle bytes k = refl
quiet R.Opened bytes k = refl
quiet R.Abandoned bytes k = refl
quiet (R.Chosen c) bytes k = refl
quiet (R.Part a n v) bytes k = refl

pub returns-in-Store : goal.returns-in-Store
returns-in-Store c =
    let a = c.args in
    changed-store a.act a.image.now c.save.new.img _ _ c.in-Store.is
    c.save.ensures

pub returns-in_default : goal.returns-in_default
returns-in_default c = quiet c.args.act c.args.image.now c.in_default.not-Store
