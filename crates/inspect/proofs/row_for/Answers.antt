-- `inspect::row_for` meets its contract, role by role.
-- Assumes nothing.
use Rattle.inspect.proofs.row_for.Goals as goal

pub returns-in-Free : goal.returns-in-Free
returns-in-Free c = rw c.in-Free.is c.plain_row.ensures

pub returns-in-Log : goal.returns-in-Log
returns-in-Log c = rw (c.in-Log.is, ← c.count_entries-t.ensures, c.plain_row-in-Log.ensures)

pub returns-in-Data : goal.returns-in-Data
returns-in-Data c = rw (c.in-Data.is, c.blocks_of.ensures, ← c.count_blocks.ensures, c.plain_row-in-Data.ensures)

pub returns-in-Wrong : goal.returns-in-Wrong
returns-in-Wrong c = rw c.in-Wrong.is c.plain_row-in-Wrong.ensures
