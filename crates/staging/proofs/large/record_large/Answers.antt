-- `staging::large::record_large` meets its contract.
-- Assumes nothing.
use Rattle.staging.proofs.Begun.{begun}
use Rattle.staging.proofs.large.record_large.Goals as goal

pub returns : goal.returns
returns c =
    let by = c.size_by-size in
    let a = c.args in
    begun by.result a.buffer.now _ _ a.setup a.words a.version a.key a.value.now a.plan.unit.0 a.plan.old
    a.plan.units _ _ _ _ by.ensures
    c.hold_value.ensures c.add_entry-end.ensures
    c.chunk.ensures c.place.ensures.0 c.block_setup-placed.ensures
