-- `insert_or_update` meets its contract. Assumes nothing.
use Rattle.std.proofs.Common.{rules}
use Rattle.index.proofs.Answers.{answer-new, answer-old, answer-full, insert-in, insert-out}
use Rattle.index.proofs.insert_or_update.Goals as goal

pub returns-then-old-eq0 : goal.returns-then-old-eq0
returns-then-old-eq0 c =
    let a = c.args in
    let w = c.slot_of-slot in (
      answer-new a.table.now a.key w.result w.ensures (search rules) c.if-old-eq0.true,
      insert-in a.table.now a.key w.result w.ensures a.info (search rules),
    )

pub returns-else-old-eq0 : goal.returns-else-old-eq0
returns-else-old-eq0 c =
    let a = c.args in
    let w = c.slot_of-slot in (
      answer-old a.table.now a.key w.result w.ensures (search rules) c.if-old-eq0.false,
      insert-in a.table.now a.key w.result w.ensures a.info (search rules),
    )

pub returns-else-slot-table : goal.returns-else-slot-table
returns-else-slot-table c =
    let a = c.args in
    let w = c.slot_of-slot in
    (answer-full a.table.now a.key w.result w.ensures (search rules), insert-out a.table.now a.key w.result w.ensures a.info (search rules))
