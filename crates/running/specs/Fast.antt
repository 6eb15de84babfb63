-- The fast path of a step and of a run: where it is taken, and that elsewhere nothing is done.
-- Assumes nothing.
use Rattle.std.specs.Prelude.{◌≡◌, List, ℕ, ◌+◌, ◌*◌, ◌≤◌, ◌<◌, min, max, length}
use Rattle.spec.specs.Actions.{lines_for}
use Rattle.session.specs.declared.Control.{Control}
use Rattle.session.specs.declared.Setup.{Setup}
use Rattle.spec.specs.declared.Report.{Report}
use Rattle.spec.specs.declared.Report.TheVariants as R
use Rattle.buffer.specs.Areas.{batch_room}
use Rattle.actions.specs.Nth.{commit_count}
use Rattle.running.specs.Stores.{Before}
use Rattle.session.specs.Promise.{Memory}

-- The next action is one of a commit's but not its last, and the lent lengths are those at its begin.
abbrev pub FastStep : Control → Setup → (bytes words : ℕ) → Type 0
FastStep c k bytes words = (c.phase ≡ 3) × ((k.image ≡ bytes) × ((k.table ≡ words) × (c.next + 1 < commit_count c.words)))

-- A commit has its last action to come or none, and the lent lengths are those at its begin.
abbrev pub Finishing : Control → Setup → (bytes words : ℕ) → Type 0
Finishing c k bytes words = (c.phase ≡ 3) × ((k.image ≡ bytes) × ((k.table ≡ words) × (commit_count c.words ≤ c.next + 1)))

-- A staging is begun, and the lent lengths are those at its begin.
abbrev pub InStaging : Control → Setup → (bytes words : ℕ) → Type 0
InStaging c k bytes words = (c.phase ≡ 2) × ((k.image ≡ bytes) × (k.table ≡ words))

-- nothing done
abbrev pub Idles : (m m' : Memory) → Report → Type 0
Idles m m' r = (m' ≡ m) × (r ≡ R.Idle)

-- where: by the record's numbers and the lent lengths
abbrev pub HereIn : (Control → Setup → (bytes words : ℕ) → Type 0) → Memory → Type 0
HereIn Here m = Here m.session.control m.session.setup (length m.image) (length m.table)

-- P of memory before and after, and of the report, where `Here` holds; elsewhere nothing is done
pub record OnFastPath (Here : Control → Setup → (bytes words : ℕ) → Type 0) (P : (m m' : Memory) → Report → Type 0) (m m' : Memory) (r : Report) : Type 0 where
  pub within : HereIn Here m → P m m' r
  pub without : (HereIn Here m → ⊥) → Idles m m' r

-- Stores of a commit up to action n are made; and the last action is still to come if it was.
pub record StoresTo (c : Control) (k : Setup) (b bytes bytes' : List ℕ) (n : ℕ) : Type 0 where
  pub made : Before FastStep c k b bytes bytes' n
  pub before_last : c.next + 1 < commit_count c.words → n + 1 < commit_count c.words

-- all stores of the batch's words that were to come
abbrev pub Stores : Control → Setup → (b bytes bytes' : List ℕ) → ℕ → Type 0
Stores c k b bytes bytes' n = StoresTo c k b bytes bytes' n × (n ≡ max c.next (8 * lines_for (min c.words batch_room)))
