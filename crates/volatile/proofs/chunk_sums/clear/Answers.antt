-- `clear` meets its contract.
-- Assumes nothing.
use Rattle.std.proofs.Common.{arith}
use Rattle.buffer.specs.Areas.{sums_start, buffer_words}
use Rattle.buffer.proofs.Laws.{zeroed}
use Rattle.volatile.proofs.Laws.{clear-all}
use Rattle.volatile.proofs.chunk_sums.clear.Goals as goal

pub returns : goal.returns
returns c =
    let b = c.args.buffer.now in
    clear-all b _ (omega arith) (zeroed b _ sums_start buffer_words (omega arith) (omega arith) (c.fill.ensures.after (λ y h. h)))
