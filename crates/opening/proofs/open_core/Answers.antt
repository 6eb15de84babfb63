-- `opening::open_core` meets its contract.
-- Assumes nothing.
use mathlib.Core.Path.{refl, ◌∙◌, ap}
use Rattle.places.specs.Sizes.{size_by}
use Rattle.opening.proofs.Opens.{opens-refused, opens-accepted}
use Rattle.opening.proofs.open_core.Goals as goal

pub returns-in-Err : goal.returns-in-Err
returns-in-Err c =
    rw c.closed.ensures
    (opens-refused _ _ _ _ _ _ _ _ c.in-Err.ensures _ refl _
    c.empty.ensures)

pub returns-in-Ok : goal.returns-in-Ok
returns-in-Ok c =
    opens-accepted _ _ _ _ _ _ _ _ c.in-Ok.ensures _
    (c.size_by.ensures ∙ ap size_by c.power_said.ensures) _ _ _ refl
    c.opened.ensures c.opened_setup.ensures
