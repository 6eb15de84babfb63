-- `cleaning::clean_core` meets its contract.
-- Assumes nothing.
use Rattle.cleaning.proofs.Begins.{gate-refuses, cleans}
use Rattle.cleaning.proofs.clean_core.Goals as goal

pub returns-in-Err : goal.returns-in-Err
returns-in-Err c = gate-refuses _ _ _ _ _ _ _ c.gate.ensures _ c.in-Err.is

pub returns : goal.returns
returns c = cleans _ _ _ _ _ _ _ c.gate.ensures c.in_default.is _ _ _ _ c.begin_clean.ensures
