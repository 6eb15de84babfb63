-- What makes a log chunk free to go: the entries elsewhere say all that its top entries say.
-- Assumes nothing.
use Rattle.std.specs.Prelude.{◌≡◌, ◌⊎◌, true, false, List, eqb}
use Rattle.spec.specs.Log.{Entry}
use Rattle.theory_log.specs.Contents.{Mem, Top}

-- each top entry of es is covered by gs: an entry of its key and version stands there, or it is a delete and its key is
-- gone
abbrev pub Covers : List Entry → List Entry → Type 0
Covers es gs =
    (e : Entry) → Top es e → ((f : Entry) × Mem f gs × (f.key ≡ e.key) × (f.version ≡ e.version)) ⊎ ((eqb e.op 1 ≡ false) × ((f : Entry) → Mem f gs → f.key ≡ e.key → ⊥))

-- gs carries es on: each put that es goes by has its key and version there, and there is no other entry than of es
pub record Carries (es gs : List Entry) : Type 0 where
  pub there : (e : Entry) → Top es e → eqb e.op 1 ≡ true → (f : Entry) × (Mem f gs × ((f.key ≡ e.key) × (f.version ≡ e.version)))
  pub from : (f : Entry) → Mem f gs → (e : Entry) × (Mem e es × ((f.key ≡ e.key) × (f.version ≡ e.version)))
