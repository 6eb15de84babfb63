-- What the plan of a large value says, and what its staging leaves in the record: the plan's item among the staged
-- words, and the plan's actions as the record's own.
-- Assumes nothing.
use Rattle.std.specs.Prelude.{◌≡◌, List, [], ◌∷◌, ◌++◌, ℕ, ◌+◌, ◌/◌, ◌^◌, ◌≤◌, ◌<◌, min, eqb, length, get_or, Option, Some, None}
use Rattle.spec.specs.Basics.{pick}
use Rattle.spec.specs.Words.{words_of, packed}
use Rattle.spec.specs.Places.{chunks_in, unit_chunk, unit_in}
use Rattle.spec.specs.Medium.{Action}
use Rattle.spec.specs.Log.{Entry, encode_all}
use Rattle.spec.specs.Blocks.{block_limit, block_size}
use Rattle.spec.specs.Actions.{lines_for, take_of, block_of}
use Rattle.spec.specs.Plans.{Staging, Plan, Refuse, Begin, entry, slot_for, stage_large}
use Rattle.session.specs.declared.Setup.{Setup}
use Rattle.spec.specs.declared.Refusal.TheVariants as N
use Rattle.theory_log.specs.Batch.{Right}
use Rattle.buffer.specs.Bits.{has_bit}
use Rattle.buffer.specs.Areas.{batch_start, batch_room, filter_place}
use Rattle.session.specs.State.{size_in, power_in, buffer_part, most_bytes, held_words}
use Rattle.session.specs.Filter.{AllMarked}
use Rattle.placing.specs.Blocks.{Says}
use Rattle.staging.specs.declared.large.Large.{Large}
use Rattle.staging.specs.declared.large.LargePlan.{LargePlan}
use Rattle.session.specs.Numbers.{block_setup}

-- THE ACTIONS of a value in the block at unit u: its chunk, whose directory word is `old`, is taken first for blocks of
-- `size` units, if that is not 0
abbrev pub actions_at : (p u old size : ℕ) → List ℕ → List Action
actions_at p u old size v = pick (eqb size 0) [] (take_of (unit_chunk p u) old size) ++ block_of u (length v ∷ packed v)

-- how many they are, by the value's length
abbrev pub stores_for : (p bytes : ℕ) → ℕ
stores_for p bytes = 1 + (min bytes (block_limit p) + 7) / 8

abbrev pub count_for : (p bytes size : ℕ) → ℕ
count_for p bytes size = pick (eqb size 0) (stores_for p bytes + lines_for (stores_for p bytes)) (2 + stores_for p bytes + lines_for (stores_for p bytes))

-- THE PLAN, for a value of so many bytes
-- what the definitions find for a value among entries and items
abbrev pub plan_for : (image : List ℕ) (k : Setup) (es items : List Entry) (version key : ℕ) (v : List ℕ) → Plan
plan_for image k es items version key v =
    stage_large (power_in k) (words_of image) items version key v (slot_for (power_in k) (chunks_in (power_in k) k.image) (words_of image) es items (block_size (power_in k) (length v)))

-- where the definitions find the block: unit and size are small, and the definitions' plan is the item and the actions
pub record FoundAt (image : List ℕ) (k : Setup) (bytes u old size : ℕ) (es items : List Entry) : Type 0 where
  pub low : unit_chunk (power_in k) u < 504
  pub few : size ≤ 256
  pub plan : (version key : ℕ) (v : List ℕ) → length v ≡ bytes
      → plan_for image k es items version key v ≡ Begin (items ++ (entry 1 1 version u key [] ∷ [])) Staging (actions_at (power_in k) u old size v)

abbrev pub FoundNowhere : (image : List ℕ) (k : Setup) (bytes : ℕ) (es items : List Entry) → Type 0
FoundNowhere image k bytes es items = (version key : ℕ) (v : List ℕ) → length v ≡ bytes → plan_for image k es items version key v ≡ Refuse N.NoSpace

-- where memory is as our calls left it and the value is a large one
abbrev pub Where : (image before : List ℕ) (k : Setup) (words bytes : ℕ) → ((es items : List Entry) → Type 0) → Type 0
Where image before k words bytes Finds =
    chunks_in (power_in k) k.image ≤ chunks_in (power_in k) (length image) → chunks_in (power_in k) k.image ≤ 504 → 257 ≤ bytes → bytes ≤ most_bytes k
    → (es items : List Entry) → Says (size_in k) before words es items → Finds es items

-- a plan: the actions are counted for any memory
abbrev pub LargePlanned : (image before : List ℕ) (k : Setup) (words bytes : ℕ) → Option LargePlan → Type 0
LargePlanned image before k words bytes (Some p) =
    (p.actions ≡ count_for (power_in k) bytes p.units) × Where image before k words bytes (FoundAt image k bytes p.unit.0 p.old p.units)
LargePlanned image before k words bytes None = Where image before k words bytes (FoundNowhere image k bytes)

-- THE RECORD
-- the setup of a staging to the block at unit u
abbrev pub placed_at : Setup → ℕ → ℕ → ℕ → Setup
placed_at k u old size = block_setup k (unit_chunk (power_in k) u) old (unit_in (power_in k) u) size

pub record BlockBegun (before after : List ℕ) (k : Setup) (words version key : ℕ) (v : List ℕ) (u old size : ℕ) (r : Large) : Type 0 where
  pub setup : r.setup ≡ placed_at k u old size
  pub long : length after ≡ length before
  pub bits : (i : ℕ) → has_bit (size_in k) after i ≡ has_bit (size_in k) before i
  pub behind : (i : ℕ) → filter_place < i → get_or after i 0 ≡ get_or before i 0
  pub held : (x : Setup) → size_in x ≡ size_in k → length v ≤ most_bytes k → held_words x after ≡ length v ∷ packed v
  pub words' : words + 2 ≤ batch_room → r.words ≡ words + 2
  pub written : words + 2 ≤ batch_room → Right (entry 1 1 version u key []) → u < 2 ^ 40 → (items : List Entry) → buffer_part before batch_start words ≡ encode_all items
      → buffer_part after batch_start r.words ≡ encode_all (items ++ (entry 1 1 version u key [] ∷ []))
  pub marked : words + 2 ≤ batch_room → (items : List Entry) → buffer_part before batch_start words ≡ encode_all items → AllMarked (get_or before filter_place 0) items
      → AllMarked (get_or after filter_place 0) (items ++ (entry 1 1 version u key [] ∷ []))
