-- `lookup::look_up_core` meets its contract.
-- Assumes nothing.
use Rattle.lookup.proofs.Looks.{hands-part, hands-refusal}
use Rattle.lookup.proofs.look_up_core.Goals as goal

pub returns-in-Ok : goal.returns-in-Ok
returns-in-Ok c = hands-part _ _ _ _ _ _ c.look_up_value.ensures _ c.in-Ok.is

pub returns-in-Err : goal.returns-in-Err
returns-in-Err c = hands-refusal _ _ _ _ _ _ c.look_up_value.ensures _ _ c.in-Err.is c.number.ensures
