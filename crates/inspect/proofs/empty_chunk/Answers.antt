-- `inspect::empty_chunk` meets its contract: what `find_empty` ensures holds for the record's own buffer.
-- Assumes nothing.
use Rattle.inspect.proofs.empty_chunk.Goals as goal

pub returns : goal.returns
returns c = c.find_empty.ensures c.args.s.now.buffer
