-- `inspect::keys` meets its contract: what `known_keys` ensures holds for the record's own setup and buffer.
-- Assumes nothing.
use Rattle.inspect.proofs.keys.Goals as goal

pub returns : goal.returns
returns c = c.known_keys.ensures c.args.s.now.setup c.args.s.now.buffer
