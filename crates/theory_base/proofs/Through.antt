-- A call as a list of actions, over any two predicates: what holds before each action, and what holds after the last.
-- Assumes nothing.
use mathlib.Core.Path.{◌≡◌}
use mathlib.Core.Logic.{inl, inr}
use mathlib.Core.Bool.{Bool, true, false}
use mathlib.Core.List.{List, [], ◌∷◌, ◌++◌}
use Prim.Native.Nat.{ℕ, ◌<◌}
use lib.Dec.{eqb}
use lib.ListN.{length}
use Rattle.spec.specs.Medium.{Cell, fresh, values, marked, Action, Store, Flush, Fence, Medium, apply, run, cell_at, Mem, step}
use Rattle.spec.specs.Basics.{pick}
use Rattle.spec.specs.Places.{line_of}
use Rattle.theory_base.proofs.Words as W

abbrev pub Through : (Medium → Type 0) → (Medium → Type 0) → List Action → Medium → Type 0
Through B A [] m = A m
Through B A (a ∷ rest) m = B m × Through B A rest (apply a m)

abbrev pub Each : (Action → Type 0) → List Action → Type 0
Each P [] = Unit {0}
Each P (a ∷ rest) = P a × Each P rest

module _ (B A : Medium → Type 0) where
  pub through-append : (xs ys : List Action) (m : Medium) → Through B (Through B A ys) xs m → Through B A (xs ++ ys) m
  through-append [] ys m t = t
  through-append (a ∷ xs) ys m t = (t.0, through-append xs ys (apply a m) t.1)

  pub through-end : (xs : List Action) (m : Medium) → Through B A xs m → A (run xs m)
  through-end [] m t = t
  through-end (a ∷ xs) m t = through-end xs (apply a m) t.1

  pub through-prefix : ((m : Medium) → A m → B m) → (xs ys : List Action) (m : Medium) → Through B A (xs ++ ys) m → B (run xs m)
  through-prefix f [] [] m t = f m t
  through-prefix f [] (a ∷ ys) m t = t.0
  through-prefix f (a ∷ xs) ys m t = through-prefix f xs ys (apply a m) t.1

  -- what each action of a list keeps holds all the way
  pub through-kept : (Fine : Action → Type 0) → ((a : Action) (m : Medium) → Fine a → B m → B (apply a m)) → ((m : Medium) → B m → A m) → (xs : List Action) (m : Medium) → Each Fine xs → B m → Through B A xs m
  through-kept Fine k f [] m e b = f m b
  through-kept Fine k f (a ∷ xs) m e b = (b, through-kept Fine k f xs (apply a m) e.1 (k a m e.0 b))

-- weaker before, and something else at the end, where the medium is the one that the actions make
pub through-map : (B B' A A' : Medium → Type 0) (xs : List Action) (m : Medium) → ((m' : Medium) → B m' → B' m') → (A (run xs m) → A' (run xs m)) → Through B A xs m → Through B' A' xs m
through-map B B' A A' [] m f g t = g t
through-map B B' A A' (a ∷ xs) m f g t = (f m t.0, through-map B B' A A' xs (apply a m) f g t.1)

append-nil-mem : (x : ℕ) (ys zs : List ℕ) → Mem x (ys ++ []) → Mem x (ys ++ zs)
append-nil-mem x [] zs t = absurd t
append-nil-mem x (y ∷ ys) zs (inl e) = inl e
append-nil-mem x (y ∷ ys) zs (inr t) = inr (append-nil-mem x ys zs t)

-- an action that writes nothing leaves no value that was not possible before
abbrev pub Quiet : Action → Type 0
Quiet (Store a v) = ⊥
Quiet (Flush l) = Unit {0}
Quiet Fence = Unit {0}

pick-mem : (b : Bool) (c : Cell) (x : ℕ) → Mem x (values (pick b (marked c) c)) → Mem x (values c)
pick-mem true c x t = t
pick-mem false c x t = t

pub quiet_step : (a : Action) (k : ℕ) (c : Cell) (x : ℕ) → Quiet a → Mem x (values (step a k c)) → Mem x (values c)
quiet_step (Store a v) k c x q t = absurd q
quiet_step (Flush l) k c x q t = pick-mem (eqb (line_of k) l) c x t
quiet_step Fence k c x q t = append-nil-mem x (c.now ∷ c.newer) c.older t

pub quiet-fresh : (a : Action) (m : Medium) (k v : ℕ) → Quiet a → k < length m → cell_at m k ≡ fresh v → cell_at (apply a m) k ≡ fresh v
quiet-fresh (Store a x) m k v q h e = absurd q
quiet-fresh (Flush l) m k v q h e = W.keeps-flush l m k v h e
quiet-fresh Fence m k v q h e = W.keeps-fence m k v h e
