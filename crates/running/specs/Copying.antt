-- Where a cleaning's run goes by its own short loop, and what it comes to.
-- Assumes nothing.
use Rattle.std.specs.Prelude.{◌≡◌, List, ℕ, ◌+◌, ◌<◌, length}
use Rattle.session.specs.declared.Control.{Control}
use Rattle.session.specs.declared.Setup.{Setup}
use Rattle.spec.specs.declared.Report.{Report}
use Rattle.actions.specs.Record.{clean_count}
use Rattle.running.specs.Run.{RunsOn}
use Rattle.running.specs.Stores.{Before}
use Rattle.session.specs.Promise.{memory_of}
use Rattle.session.specs.Numbers.{at_action}

-- The next action is one of a cleaning's but not its last, and the lent lengths are those at its begin.
abbrev pub Copying : Control → Setup → (bytes words : ℕ) → Type 0
Copying c k bytes words = (c.phase ≡ 6) × ((k.image ≡ bytes) × ((k.table ≡ words) × (c.next + 1 < clean_count k.source.words)))

-- what several actions of a cleaning come to, whatever the table holds
pub record CleaningRun (c : Control) (k : Setup) (b bytes bytes' : List ℕ) (next : ℕ) (r : Report) : Type 0 where
  pub sized : length bytes' ≡ length bytes
  pub runs : (table : List ℕ) → Copying c k (length bytes) (length table)
      → RunsOn (memory_of c k b bytes table) (memory_of (at_action next c) k b bytes' table) r

-- Stores of a cleaning up to action n are made; and the last action is still to come if it was.
pub record KeptStores (c : Control) (k : Setup) (b bytes bytes' : List ℕ) (n : ℕ) : Type 0 where
  pub made : Before Copying c k b bytes bytes' n
  pub before_last : c.next + 1 < clean_count k.source.words → n + 1 < clean_count k.source.words
