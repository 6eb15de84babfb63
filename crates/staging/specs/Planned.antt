-- What the plan of a staging says of the call: its refusal, or what the definitions plan, and what is to be recorded
-- for the call to do what it promises. A put is planned by its value's length.
-- Assumes nothing.
use Rattle.std.specs.Prelude.{◌≡◌, List, [], ◌∷◌, ◌++◌, ℕ, ◌<◌, length, Result, Ok, Err}
use Rattle.std.proofs.Math.Option.{none, some}
use Rattle.spec.specs.Words.{AreBytes, words_of, packed}
use Rattle.spec.specs.Medium.{Action}
use Rattle.spec.specs.Log.{Entry}
use Rattle.spec.specs.Plans.{Staging, Begin, entry, max_items}
use Rattle.spec.specs.Machine.{Call, Put, Delete, items_of, state_power, gate, plan_of}
use Rattle.spec.specs.Basics.{Given}
use Rattle.spec.specs.declared.Refusal.{Refusal}
use Rattle.spec.specs.declared.Report.TheVariants as R
use Rattle.session.specs.State.{power_in, behind_all, state_of}
use Rattle.session.specs.Fits.{Fits}
use Rattle.session.specs.Numbers.{staged_more}
use Rattle.session.specs.Promise.{Memory, memory_of, Does}
use Rattle.batch.specs.Added.{Added}
use Rattle.staging.specs.declared.large.Large.{Large}
use Rattle.staging.specs.Large.{actions_at, BlockBegun}
use Rattle.staging.specs.declared.Item.{Item}
use Rattle.staging.specs.declared.BlockItem.{BlockItem}

-- THE CALL IS BEGUN with one more item and so many actions: the gate bars nothing, one more item is allowed, and on
-- memory as our calls left it the definitions plan the same
pub record Begins (call : Call) (m : Memory) (item : Entry) (acts : List Action) (actions : ℕ) : Type 0 where
  pub passes : gate (state_of m.session) (length m.image) (length m.table) ≡ none
  pub few : m.session.control.items < max_items
  pub counted : actions ≡ length acts
  pub plan : Fits m.session (words_of m.image) m.table
      → plan_of (state_power (state_of m.session)) call (items_of (state_of m.session)) (words_of m.image) (length m.image) (length m.table)
      ≡ some (Begin (items_of (state_of m.session) ++ (item ∷ [])) Staging acts)

-- with the item recorded, and so many staged keys not known then, the call does what it promises
abbrev pub ItemRecords : Call → Memory → Entry → (fresh : ℕ) → Type 0
ItemRecords call m item fresh =
    (after : List ℕ) (words : ℕ) → Added m.session.buffer after m.session.control.words words item
    → Does call m (memory_of (staged_more behind_all words fresh m.session.control) m.session.setup after m.image m.table) (R.Begun 0)

-- the same of a large value v and its item, to the block at unit u
abbrev pub BlockRecords : Call → Memory → (version key : ℕ) (v : List ℕ) (u old size fresh actions : ℕ) → Type 0
BlockRecords call m version key v u old size fresh actions =
    (after : List ℕ) (r : Large) → BlockBegun m.session.buffer after m.session.setup m.session.control.words version key v u old size r
    → Does call m (memory_of (staged_more 0 r.words fresh m.session.control) r.setup after m.image m.table) (R.Begun actions)

-- A PUT into the log, of any value of so many bytes
abbrev pub LogPlanned : Given → (key bytes : ℕ) → Memory → Result Item Refusal → Type 0
LogPlanned named key bytes m (Err n) = (v : List ℕ) → length v ≡ bytes → Does (Put named key v) m m (R.Refused n)
LogPlanned named key bytes m (Ok x) =
    (v : List ℕ) → length v ≡ bytes
    → Begins (Put named key v) m (entry 1 0 x.version (length v) key (packed v)) [] 0
    × (AreBytes v → ItemRecords (Put named key v) m (entry 1 0 x.version (length v) key (packed v)) x.fresh)

-- a put into a block
abbrev pub BlockPlanned : Given → (key bytes : ℕ) → Memory → Result BlockItem Refusal → Type 0
BlockPlanned named key bytes m (Err n) = (v : List ℕ) → length v ≡ bytes → Does (Put named key v) m m (R.Refused n)
BlockPlanned named key bytes m (Ok x) =
    (v : List ℕ) → length v ≡ bytes
    → Begins (Put named key v) m (entry 1 1 x.version x.place.unit.0 key []) (actions_at (power_in m.session.setup) x.place.unit.0 x.place.old x.place.units v) x.place.actions
    × (AreBytes v → BlockRecords (Put named key v) m x.version key v x.place.unit.0 x.place.old x.place.units x.fresh x.place.actions)

-- A DELETE
abbrev pub DeletePlanned : Given → (key : ℕ) → Memory → Result Item Refusal → Type 0
DeletePlanned named key m (Err n) = Does (Delete named key) m m (R.Refused n)
DeletePlanned named key m (Ok x) =
    Begins (Delete named key) m (entry 2 0 x.version 0 key []) [] 0 × ItemRecords (Delete named key) m (entry 2 0 x.version 0 key []) x.fresh
