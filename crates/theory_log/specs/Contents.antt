-- What the laws of contents speak of: membership, items done in order, versions that count on, agreement.
-- Assumes nothing.
use Rattle.std.specs.Prelude.{◌≡◌, ◌⊎◌, List, [], ◌∷◌, ℕ, suc, ◌≤◌, eqb}
use Rattle.std.proofs.Math.Option.{some}
use Rattle.spec.specs.Basics.{pick}
use Rattle.spec.specs.Log.{Entry, moved}
use Rattle.spec.specs.Contents.{Held, highest, chosen}

-- membership
abbrev pub Mem : Entry → List Entry → Type 0
Mem e [] = ⊥
Mem e (f ∷ fs) = (e ≡ f) ⊎ Mem e fs

-- the items of a batch done in order
abbrev pub done : (Entry → Held) → List Entry → (ℕ → Held) → ℕ → Held
done mean [] c k = c k
done mean (e ∷ es) c k = done mean es (λ j. pick (eqb e.key j) (mean e) (c j)) k

-- the versions of a batch count on from each key's highest among es
abbrev pub CountsOn : List Entry → List Entry → Type 0
CountsOn es [] = Unit {0}
CountsOn es (e ∷ batch) = (e.version ≡ suc (highest e.key es)) × CountsOn (e ∷ es) batch

-- e is a top entry of its key
abbrev pub Top : List Entry → Entry → Type 0
Top es e = Mem e es × ((f : Entry) → Mem f es → f.key ≡ e.key → f.version ≤ e.version)

-- two entries are one but for their place
abbrev pub Same : Entry → Entry → Type 0
Same e f = moved 0 e ≡ moved 0 f

-- top entries are the same as the chosen one; no two entries have one place
abbrev pub Agree : List Entry → Type 0
Agree es = (k : ℕ) (e f : Entry) → chosen k es ≡ some e → Mem f es → f.key ≡ k → f.version ≡ e.version → Same f e

abbrev pub Apart : List Entry → Type 0
Apart es = (e f : Entry) → Mem e es → Mem f es → e.at ≡ f.at → e ≡ f
