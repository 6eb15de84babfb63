-- `sizes::put_table` meets its contract.
-- Assumes nothing.
use Rattle.std.proofs.Common.{◌≡◌, arith}
use Rattle.sizes.specs.Table.{text_bytes}
use Rattle.sizes.proofs.Lines.{lines_start, lines-on, table-is}
use Rattle.sizes.proofs.put_table.Goals as goal

pub loop-units-init : goal.loop-units-init
loop-units-init c = rw c.requires (lines_start text_bytes)

pub loop-units-preserved : goal.loop-units-preserved
loop-units-preserved c = lines-on text_bytes _ _ _ c.loop-units.units c.loop-units.invariant c.put_line.ensures

pub returns : goal.returns
returns c =
    let e : c.loop-units.units ≡ 257 = omega arith in
    table-is _ (rw e at c.loop-units.invariant)
