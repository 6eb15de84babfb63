-- A put with its value in the log, where one stands: what a pass may go by that looks for the common case first.
-- Assumes nothing.
use Rattle.std.specs.Prelude.{◌≡◌, List, ℕ, ◌+◌, ◌/◌, ◌%◌, ◌≤◌, get_or, Option, Some, None}
use Rattle.std.proofs.Math.Seq.{slice}
use Rattle.spec.specs.Log.{step_of}
use Rattle.spec.specs.declared.LogStep.TheVariants as S
use Rattle.logs.specs.declared.ShortPut.{ShortPut}

-- a put with its value in the log, as the words at `at` tell of it, of those before `end`
pub record Told (ws : List ℕ) (at end : ℕ) (p : ShortPut) : Type 0 where
  pub low : get_or ws at 0 % 16 ≡ 1
  pub version : p.version ≡ get_or ws at 0 / 16 % 1048576
  pub field : p.field ≡ get_or ws at 0 / 16777216
  pub few : p.field ≤ 256
  pub key : p.key ≡ get_or ws (at + 1) 0
  pub words : p.words ≡ (p.field + 7) / 8
  pub within : at + (2 + p.words) ≤ end

abbrev pub ToldAt : List ℕ → ℕ → ℕ → Option ShortPut → Type 0
ToldAt ws at end (Some p) = Told ws at end p
ToldAt ws at end None = Unit {0}

-- what is found at word `at` of the words before `end`: a put stands there as told, and of anything else nothing is
-- told
abbrev pub ShortAt : List ℕ → ℕ → ℕ → Option ShortPut → Type 0
ShortAt ws at end (Some p) = step_of (slice at end ws) ≡ S.Entry 1 0 p.version p.field p.key p.words
ShortAt ws at end None = Unit {0}
