-- `running::store_kept` meets its contract.
-- Assumes nothing.
use native.Mathlib.Omega.{arith}
use Rattle.running.proofs.Runs.{kept-none, kept-stored}
use Rattle.running.proofs.store_kept.Goals as goal

pub returns-then-kept-at : goal.returns-then-kept-at
returns-then-kept-at c = kept-none _ _ _ _

pub returns : goal.returns
returns c =
    let a = c.args in
    kept-stored a.control a.setup a.buffer.now a.image.now c.batch_start-start.result
    c.min-kept.result c.batch_start-start.ensures.0 c.min-kept.ensures (omega arith) _
    c.store_area.ensures
