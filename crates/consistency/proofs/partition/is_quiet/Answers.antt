-- `consistency::partition::is_quiet` meets its contract. Assumes nothing.
use mathlib.Core.Path.{refl}
use native.Mathlib.Omega.{arith}
use Rattle.consistency.proofs.Twins.{quiet_short, quiet_told}
use Rattle.consistency.proofs.partition.is_quiet.Goals as goal

pub returns-then-table-at : goal.returns-then-table-at
returns-then-table-at c = quiet_short _ _

pub returns : goal.returns
returns c =
    quiet_told c.args.table.now c.args.s _ refl (omega arith)
