-- Entries of which a second pass has nothing to find, and what shows in one pass that they are such.
-- Assumes nothing.
use Rattle.std.specs.Prelude.{◌≡◌, ℕ, ◌<◌, Bool, true, false, List}
use Rattle.spec.specs.declared.Size.{Size}
use Rattle.spec.specs.Log.{Entry}
use Rattle.spec.specs.Blocks.{pointed}
use Rattle.theory_log.specs.Contents.{Mem}
use Rattle.volatile.specs.Known.{several, info_of}

-- each key has a single top entry: none has several
pub record Single (es : List Entry) : Type 0 where
  pub each : (k : ℕ) → several k es ≡ 0

-- each value is direct: none lies in a block
pub record Direct (es : List Entry) : Type 0 where
  pub each : (e : Entry) → Mem e es → pointed e ≡ false

-- the entries xs are passed: where `single`, the table holds them, and no word of it has the bit of several top entries
pub record PlainInv (size : Size) (xs : List Entry) (single direct fits : Bool) : Type 0 where
  pub held : single ≡ true → fits ≡ true
  pub low : single ≡ true → (k : ℕ) → info_of size k xs < 0x8000_0000_0000_0000
  pub unpointed : direct ≡ true → (e : Entry) → Mem e xs → pointed e ≡ false
