-- `printing::put_keys` meets its contract.
-- Assumes nothing.
use Rattle.printing.proofs.Prints.{lining-on, lining-all}
use Rattle.printing.proofs.put_keys.Goals as goal

pub loop-row-preserved : goal.loop-row-preserved
loop-row-preserved g c = lining-on _ _ _ _ _ _ _ _ _ _ c.loop-row.row c.loop-row-test.true c.loop-row.invariant c.put_key.ensures

pub returns : goal.returns
returns g c = lining-all _ _ _ _ _ _ _ _ _ c.loop-row.row c.loop-row.invariant c.loop-row-test.false
