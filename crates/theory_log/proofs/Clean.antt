-- What cleaning's copies are: entries placed anew, and the chosen entry by its place.
-- Assumes nothing.
use Rattle.std.proofs.lemmas.Bool.Decides.{nat_tests}
use mathlib.Core.Path.{◌≡◌, refl, ap}
use mathlib.Core.Logic.{inl, inr}
use mathlib.Core.Bool.{true, false}
use mathlib.Core.Option.{Option, none, some}
use mathlib.Core.List.{List, [], ◌∷◌}
use Prim.Native.Nat.{ℕ, ◌+◌}
use native.Mathlib.Omega.{arith}
use lib.ListN.{length}
use borrow.Author.Tests.{eqb-true}
use Rattle.spec.specs.Log.{Entry, moved, placed}
use Rattle.spec.specs.Contents.{chosen, known, is_at}
use Rattle.theory_log.specs.Contents.{Mem}

-- what is placed is a copy, and what is copied is placed
pub mem-placed : (f : Entry) (at : ℕ) (es : List Entry) → Mem f (placed at es) → (e : Entry) × Mem e es × (a : ℕ) × (f ≡ moved a e)
mem-placed f at [] m = absurd m
mem-placed f at (e ∷ es) (inl q) = (e, inl refl, at, q)
mem-placed f at (e ∷ es) (inr m) = let r = mem-placed f (at + (2 + length e.value)) es m in (r.0, inr r.1, r.2, r.3)

pub placed-mem : (e : Entry) (at : ℕ) (es : List Entry) → Mem e es → (a : ℕ) × Mem (moved a e) (placed at es)
placed-mem e at [] m = absurd m
placed-mem e at (x ∷ es) (inl q) = (at, inl (ap (moved at) q))
placed-mem e at (x ∷ es) (inr m) = let r = placed-mem e (at + (2 + length x.value)) es m in (r.0, inr r.1)

pub is-at : (q : Option Entry) (a : ℕ) → is_at q a ≡ true → (e : Entry) × (q ≡ some e) × (e.at ≡ a)
is-at none a h = absurd (let z : ◌≡◌ {A = ℕ} 0 1 = cc in omega arith)
is-at (some e) a h = (e, refl, eqb-true e.at a h)

pub unknown : (k : ℕ) (es : List Entry) → known k es ≡ false → chosen k es ≡ none
unknown k es h = grind (arith, nat_tests)
