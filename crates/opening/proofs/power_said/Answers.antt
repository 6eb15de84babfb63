-- `opening::power_said` meets its contract.
-- Assumes nothing.
use mathlib.Core.Path.{◌∙◌}
use Rattle.opening.proofs.power_said.Goals as goal

pub returns : goal.returns
returns c =
    c.header_power.ensures
    ∙ rw (
      c.load.ensures,
      c.load-2.ensures,
      c.load-3.ensures,
      c.load-4.ensures,
    )
