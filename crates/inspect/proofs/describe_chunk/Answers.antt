-- `inspect::describe_chunk` meets its contract: what `describe` ensures holds for the record's own buffer.
-- Assumes nothing.
use Rattle.inspect.proofs.describe_chunk.Goals as goal

pub returns : goal.returns
returns c = c.describe.ensures c.args.s.now.buffer
