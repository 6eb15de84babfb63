-- What the stores of a large value's staging come to, and a run of it.
-- Assumes nothing.
use Rattle.std.specs.Prelude.{◌≡◌, false, List, ℕ, eqb, length}
use Rattle.spec.specs.Basics.{pick}
use Rattle.session.specs.declared.Control.{Control}
use Rattle.session.specs.declared.Setup.{Setup}
use Rattle.spec.specs.declared.Report.{Report}
use Rattle.session.specs.State.{block_actions}
use Rattle.actions.specs.Nth.{nth_report}
use Rattle.running.specs.Run.{is_store, RunsOn}
use Rattle.running.specs.Stores.{Before}
use Rattle.running.specs.Fast.{InStaging}
use Rattle.session.specs.Promise.{memory_of}

-- how many actions of a staging take its chunk
abbrev pub take_count : Setup → ℕ
take_count k = pick (eqb k.fields 0) 0 2

-- all stores of a staging that come next: the action behind them, if there is one, is none
pub record BlockStores (c : Control) (k : Setup) (b bytes bytes' : List ℕ) (n : ℕ) : Type 0 where
  pub made : Before InStaging c k b bytes bytes' n
  pub behind : is_store (nth_report (block_actions k b) n) ≡ false

-- what a run of a staging comes to, whatever the table holds
pub record StagingRun (c : Control) (k : Setup) (b bytes bytes' : List ℕ) (c' : Control) (r : Report) : Type 0 where
  pub sized : length bytes' ≡ length bytes
  pub runs : (table : List ℕ) → InStaging c k (length bytes) (length table)
      → RunsOn (memory_of c k b bytes table) (memory_of c' k b bytes' table) r
