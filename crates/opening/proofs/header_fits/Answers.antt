-- `opening::header_fits` meets its contract.
-- Assumes nothing.
use mathlib.Core.Path.{◌∙◌}
use native.Mathlib.Omega.{arith}
use Rattle.opening.proofs.header_fits.Goals as goal

pub returns : goal.returns
returns c =
    let i = c.loop-i.invariant in
    c.header_right.ensures
    ∙ rw (
      i.1 0 (omega arith),
      i.1 1 (omega arith),
      i.1 2 (omega arith),
      i.1 3 (omega arith),
      i.1 4 (omega arith),
      i.1 5 (omega arith),
      i.1 6 (omega arith),
      i.1 7 (omega arith),
    )
