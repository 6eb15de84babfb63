-- `set_bit` meets its contract: the word that it stores differs in one bit. Assumes nothing.
use native.Mathlib.Omega.{arith}
use Rattle.buffer.proofs.Laws.{set-shows}
use Rattle.buffer.proofs.set_bit.Goals as goal

pub returns-then-u-unit_count : goal.returns-then-u-unit_count
returns-then-u-unit_count c =
    let start = c.args in
    set-shows start.size start.buffer.now start.unit.0 (omega arith) (omega arith)
