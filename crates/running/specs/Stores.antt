-- Stores made one behind the other: of words of the buffer's second area, and of actions that are to come.
-- Assumes nothing.
use Rattle.std.specs.Prelude.{◌≡◌, List, ℕ, zero, suc, ◌+◌, length, get_or}
use Rattle.session.specs.declared.Control.{Control}
use Rattle.session.specs.declared.Setup.{Setup}
use Rattle.session.specs.declared.Session.{Session}
use Rattle.spec.specs.declared.Report.{Report}
use Rattle.words.specs.Image.{Saved}
use Rattle.buffer.specs.Areas.{second_start}
use Rattle.running.specs.Run.{Runs}
use Rattle.session.specs.Promise.{memory, memory_of}
use Rattle.session.specs.Numbers.{at_action}

-- word i of the second area
abbrev pub area_word : (b : List ℕ) (i : ℕ) → ℕ
area_word b i = get_or b (second_start + i) 0

-- m words saved, from number i on: word start + i is `value i`, and so on
abbrev pub Filled : (ℕ → ℕ) → (start i m : ℕ) → (bytes bytes' : List ℕ) → Type 0
Filled value start i zero bytes bytes' = bytes' ≡ bytes
Filled value start i (suc m) bytes bytes' = (bytes₁ : List ℕ) × (Saved bytes bytes₁ (start + i) (value i) × Filled value start (suc i) m bytes₁ bytes')

-- Stores up to action n are made, from the next one on, where `Here` holds: with whatever run follows they are one.
pub record Before (Here : Control → Setup → (bytes words : ℕ) → Type 0) (c : Control) (k : Setup) (b bytes bytes' : List ℕ) (n : ℕ) : Type 0 where
  pub sized : length bytes' ≡ length bytes
  pub run : (table : List ℕ) → Here c k (length bytes) (length table) → (s' : Session) (bytes'' table'' : List ℕ) (r : Report)
      → Runs (memory_of (at_action n c) k b bytes' table) (memory s' bytes'' table'') r
      → Runs (memory_of c k b bytes table) (memory s' bytes'' table'') r
