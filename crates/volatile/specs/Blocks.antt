-- The blocks that leave the bits: those of the top entries of a key that gets a higher version.
-- Assumes nothing.
use Rattle.std.specs.Prelude.{◌≡◌, ℕ, ◌<◌, Bool, true, false, List, ◌==◌}
use Rattle.std.proofs.Math.Option.{Option, none, some}
use Rattle.spec.specs.declared.Size.{Size}
use Rattle.spec.specs.Basics.{both, either, negate}
use Rattle.spec.specs.Log.{Entry}
use Rattle.spec.specs.Contents.{chosen}
use Rattle.spec.specs.declared.FirstWord.{FirstWord}
use Rattle.spec.specs.declared.FirstWord.TheVariants as F
use Rattle.places.specs.Sizes.{unit_count}
use Rattle.buffer.specs.Bits.{has_bit, WordsKept}

-- an entry with these parts is a put in the block at unit u
abbrev pub block_at : (op placement field u : ℕ) → Bool
block_at op placement field u = both (both (op == 1) (placement == 1)) (field == u)

abbrev pub points : ℕ → Entry → Bool
points u e = block_at e.op e.placement e.field u

-- the block that a first word names
abbrev pub named_by : FirstWord → ℕ → Bool
named_by F.Padding u = false
named_by F.Wrong u = false
named_by (F.Entry op placement version field) u = block_at op placement field u

-- the block of a key's chosen entry, which is that of all its top entries where they agree
abbrev pub block_of : Option Entry → ℕ → Bool
block_of none u = false
block_of (some e) u = points u e

abbrev pub top_block : ℕ → List Entry → ℕ → Bool
top_block key es u = block_of (chosen key es) u

-- the units that `gone` names have left the set, every other is as it was
pub record Freed (size : Size) (before after : List ℕ) (gone : ℕ → Bool) : Type 0 where
  pub bits : (u : ℕ) → has_bit size after u ≡ both (has_bit size before u) (negate (gone u))
  pub kept : WordsKept before after

-- the units that `own` names, which the bits have room for, are in the set, every other is as it was
pub record Claimed (size : Size) (before after : List ℕ) (own : ℕ → Bool) : Type 0 where
  pub bits : (u : ℕ) → (own u ≡ true → u < unit_count size) → has_bit size after u ≡ either (own u) (has_bit size before u)
  pub kept : WordsKept before after
