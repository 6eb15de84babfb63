-- `faults::top::compared` meets its contract: the place is that of before, or the lesser.
-- Assumes nothing.
use Rattle.faults.proofs.top.compared.Goals as goal

pub returns-then-agreed : goal.returns-then-agreed
returns-then-agreed c = record { same = c.agreed.result; agrees = c.agreed.ensures; least-is = rw c.if-agreed.true }

pub returns-else-agreed : goal.returns-else-agreed
returns-else-agreed c = record { same = c.agreed.result; agrees = c.agreed.ensures; least-is = rw c.if-agreed.false c.least.ensures }
