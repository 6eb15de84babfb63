-- What holds while a second pass over the entries checks the blocks and the agreement of the top entries, and marks the
-- live blocks.
-- Assumes nothing.
use Rattle.std.specs.Prelude.{◌≡◌, ℕ, Bool, true, false, List}
use Rattle.std.proofs.Math.Option.{some}
use Rattle.spec.specs.Basics.{pick, all}
use Rattle.spec.specs.Log.{Entry}
use Rattle.spec.specs.Blocks.{pointed}
use Rattle.spec.specs.Contents.{is_top, chosen}
use Rattle.spec.specs.Opening.{fine, agree_with}
use Rattle.theory_log.specs.Contents.{Mem}

-- a put of the list xs that points to a block, and is the chosen entry of its key
pub record Live (es xs : List Entry) (e : Entry) : Type 0 where
  pub member : Mem e xs
  pub first : chosen e.key es ≡ some e
  pub points : pointed e ≡ true

-- two keys' chosen puts share a block
pub record Clash (es : List Entry) : Type 0 where
  pub one : Entry
  pub other : Entry
  pub one-live : Live es es one
  pub other-live : Live es es other
  pub block : one.field ≡ other.field
  pub keys : one.key ≡ other.key → ⊥

-- the blocks marked after xs, a front part of es: those of the chosen entries; `apart`: no two keys of xs share one,
-- else two of es do
pub record Marks (es xs : List Entry) (has : ℕ → Bool) (apart : Bool) : Type 0 where
  pub marked : (e : Entry) → Live es xs e → has e.field ≡ true
  pub only : (u : ℕ) → has u ≡ true → (e : Entry) × Live es xs e × (e.field ≡ u)
  pub alone : apart ≡ true → (e f : Entry) → Live es xs e → Live es xs f → e.field ≡ f.field → e.key ≡ f.key
  pub clash : apart ≡ false → Clash es

-- the tests after xs
pub record CheckInv (p n : ℕ) (ws : List ℕ) (es xs : List Entry) (has : ℕ → Bool) (blocks agreeing apart : Bool) : Type 0 where
  pub right : blocks ≡ all (λ (e : Entry). pick (is_top es e) (fine p n ws e) true) xs
  pub agreed : agreeing ≡ all (λ (e : Entry). pick (is_top es e) (agree_with e (chosen e.key es)) true) xs
  pub marks : Marks es xs has apart
