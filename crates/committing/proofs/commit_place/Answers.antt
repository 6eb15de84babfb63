-- `committing::commit_place` meets its contract.
-- Assumes nothing.
use Rattle.committing.proofs.Begins as B
use Rattle.committing.proofs.commit_place.Goals as goal

pub returns : goal.returns
returns c = B.place-shown c.args.size _ _ _ _ _ _ _ _ _ _ c.chunks_in-count.ensures.0 c.batch_lines-lines.ensures c.only_deletes-deletes.ensures c.free_needed-needed.ensures c.log_place.ensures
