-- `has_bit` meets its contract: the bit of a unit, false past the last. Assumes nothing.
use Rattle.std.proofs.Common.{sym, ◌∙◌, arith, le-ltb}
use Rattle.buffer.proofs.Laws.{bit_in_lem, bit-beyond}
use Rattle.buffer.proofs.has_bit.Goals as goal

pub returns-then-u-unit_count : goal.returns-then-u-unit_count
returns-then-u-unit_count c =
    let start = c.args in
    sym (bit_in_lem start.size start.buffer.now start.unit.0 (omega arith))

pub returns-else-u-unit_count : goal.returns-else-u-unit_count
returns-else-u-unit_count c =
    let start = c.args in
    le-ltb _ _ c.if-u-unit_count.false ∙ sym (bit-beyond start.size start.buffer.now start.unit.0 (omega arith))
