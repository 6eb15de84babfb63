-- `batch::last_staged` meets its contract: what the filter has is looked for, and what it has not is not staged.
-- Assumes nothing.
use mathlib.Core.Path.{sym, ◌∙◌}
use Prim.Native.Nat.{min}
use native.Mathlib.Omega.{arith}
use Rattle.buffer.specs.Areas.{batch_room}
use Rattle.batch.proofs.Marks.{marks-all, unmarked-none}
use Rattle.batch.proofs.last_staged.Goals as goal

pub returns-else-is_marked : goal.returns-else-is_marked
returns-else-is_marked c items s =
    let a = c.args in
    let marks = c.marks_of-marks in
    let test = c.is_marked in
    unmarked-none marks.result a.key items (sym test.ensures ∙ c.if-is_marked.false)
    (rw marks.ensures (marks-all a.buffer.now a.words (min a.words batch_room) items (λ z. omega arith) s.written s.marked))
