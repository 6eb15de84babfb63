-- `clear_bits` meets its contract.
-- Assumes nothing.
use Rattle.std.proofs.Common.{arith, ◌+◌, ◌/◌}
use Rattle.buffer.specs.Areas.{bits_start}
use Rattle.buffer.proofs.Laws.{zeroed, clear-all}
use Rattle.buffer.proofs.clear_bits.Goals as goal

pub returns : goal.returns
returns c =
    let a = c.args in
    let end = bits_start + c.unit_count.result / 64 in
    clear-all a.size a.buffer.now _ end (omega arith) (omega arith) (zeroed a.buffer.now _ bits_start end (omega arith) (omega arith) (c.fill.ensures.after (λ y h. h)))
