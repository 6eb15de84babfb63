-- The record's phase: the items of a record at rest, and the phases that stand for nothing.
-- Assumes nothing.
use mathlib.Core.Path.{◌≡◌}
use mathlib.Core.Bool.{Bool, true, false}
use mathlib.Core.List.{List, []}
use Prim.Native.Nat.{ℕ, ◌≤◌}
use native.Mathlib.Omega.{arith}
use lib.Dec.{eqb}
use borrow.Author.Tests.{ne_eqb}
use Rattle.spec.specs.Basics.{pick}
use Rattle.spec.specs.Medium.{Action}
use Rattle.spec.specs.Log.{Entry}
use Rattle.spec.specs.Plans.{Staging, Committing, Cleaning, Olds}
use Rattle.spec.specs.Machine.{Closed, Rest, Busy, Formatting}
use Rattle.session.specs.declared.Control.{Control}
use Rattle.session.specs.declared.Setup.{Setup}
use Rattle.session.specs.State.{power_in, batch_items, state_by, state_at}

module _ (c : Control) (k : Setup) (b : List ℕ) where
  -- a record at rest has the items that its words say
  pub rest-items : (p i t : ℕ) (items : List Entry) → state_at c k b ≡ Rest p i t items → batch_items c b ≡ items
  unfolding state_at
  rest-items p i t items e = go (eqb c.phase 1) (eqb c.phase 2) (eqb c.phase 3) (eqb c.phase 4) (eqb c.phase 5) (eqb c.phase 6) _ _ _ _ _ _ _ _ _ e
    where
      go : (b1 b2 b3 b4 b5 b6 : Bool) (found : List Entry) (m : ℕ) (o3 o6 : Olds) (a2 a3 a4 a5 a6 : List Action)
          → pick b1 (Rest (power_in k) k.image k.table found) (pick b2 (Busy (power_in k) k.image k.table found Staging a2) (pick b3 (Busy (power_in k) k.image k.table found (Committing o3) a3)
          (pick b4 (Formatting false k.image k.table a4) (pick b5 (Formatting true k.image k.table a5) (pick b6 (Busy (power_in k) k.image k.table [] (Cleaning m o6) a6) Closed))))) ≡ Rest p i t items
          → found ≡ items
      go true b2 b3 b4 b5 b6 found m o3 o6 a2 a3 a4 a5 a6 q = cc
      go false true b3 b4 b5 b6 found m o3 o6 a2 a3 a4 a5 a6 q = absurd (let z : ◌≡◌ {A = ℕ} 0 1 = cc in omega arith)
      go false false true b4 b5 b6 found m o3 o6 a2 a3 a4 a5 a6 q = absurd (let z : ◌≡◌ {A = ℕ} 0 1 = cc in omega arith)
      go false false false true b5 b6 found m o3 o6 a2 a3 a4 a5 a6 q = absurd (let z : ◌≡◌ {A = ℕ} 0 1 = cc in omega arith)
      go false false false false true b6 found m o3 o6 a2 a3 a4 a5 a6 q = absurd (let z : ◌≡◌ {A = ℕ} 0 1 = cc in omega arith)
      go false false false false false true found m o3 o6 a2 a3 a4 a5 a6 q = absurd (let z : ◌≡◌ {A = ℕ} 0 1 = cc in omega arith)
      go false false false false false false found m o3 o6 a2 a3 a4 a5 a6 q = absurd (let z : ◌≡◌ {A = ℕ} 0 1 = cc in omega arith)

  -- the phases that stand for nothing
  pub past : (phase : ℕ) → 7 ≤ phase → state_by phase c k b ≡ Closed
  past phase h =
      rw (ne_eqb phase 1 (λ q. omega arith), ne_eqb phase 2 (λ q. omega arith), ne_eqb phase 3 (λ q. omega arith), ne_eqb phase 4 (λ q. omega arith), ne_eqb phase 5 (λ q. omega arith), ne_eqb phase 6 (λ q. omega arith))
