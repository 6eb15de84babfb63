-- `inspect::entries::entries_from` meets its contract: no entry of the key stands in the log, or the pass
-- writes them.
-- Assumes nothing.
use Rattle.std.proofs.Common.{arith}
use Rattle.inspect.proofs.Filled.{read_as, none-listed, all_listed}
use Rattle.inspect.proofs.entries.entries_from.Goals as goal

pub returns-then-best-eq0 : goal.returns-then-best-eq0
returns-then-best-eq0 c =
    let e = c.chunks_in-chunks.ensures.0 in
    read_as c.size_said-size.result _ _ _ _ _ _ _ c.size_said-size.ensures
    (none-listed c.size_said-size.result _ (omega arith) _ _ _ _ (rw e at c.best_of-best.ensures) _ c.if-best-eq0.true)

pub returns : goal.returns
returns c =
    let e = c.chunks_in-chunks.ensures.0 in
    read_as c.size_said-size.result _ _ _ _ _ _ _ c.size_said-size.ensures
    (all_listed c.size_said-size.result _ (omega arith) _ _ _ _ (rw e at c.best_of-best.ensures) _ _ _ c.if-best-eq0.false (rw e at c.fill.ensures))
