-- When an entry is right: its words parse back to it.
-- Assumes nothing.
use Rattle.std.specs.Prelude.{◌≡◌, true, List, [], ◌∷◌, ℕ, ◌≤◌, ◌<◌, length}
use Rattle.spec.specs.Log.{Entry, max_in_log, words_for, filled, encode}

-- operation, placement, and the length or the pointer: a put in the log, a put in a block, a delete
pub data Kind : ℕ → ℕ → ℕ → Type 0 where
  put : {x : ℕ} → x ≤ max_in_log → Kind 1 0 x
  block : {x : ℕ} → Kind 1 1 x
  delete : Kind 2 0 0

pub record Right (e : Entry) : Type 0 where
  pub kind : Kind e.op e.placement e.field
  pub low : 1 ≤ e.version
  pub high : e.version < 1048576
  pub words : length e.value ≡ words_for e.placement e.field
  pub fill : filled e.placement e.field (encode e) ≡ true

abbrev pub AllRight : List Entry → Type 0
AllRight [] = Unit {0}
AllRight (e ∷ es) = Right e × AllRight es
