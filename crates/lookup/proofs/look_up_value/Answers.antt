-- `lookup::look_up_value` meets its contract.
-- Assumes nothing.
use mathlib.Core.Path.{refl}
use Rattle.lookup.proofs.Looks.{show-part}
use Rattle.lookup.proofs.look_up_value.Goals as goal

pub returns : goal.returns
returns c = show-part _ _ _ _ _ _ c.locate.ensures _ _ c.in_ok-part.was refl refl
