-- `apply::remove::remove_chunk` meets its contract.
-- Assumes nothing.
use Rattle.std.proofs.Common.{refl}
use Rattle.apply.proofs.Ends.{emptied, emptied-anew}
use Rattle.apply.proofs.remove.remove_chunk.Goals as goal

pub returns-in-Some : goal.returns-in-Some
returns-in-Some c =
    emptied c.args.size _ _ _ _ _ _ _ _ _ _ _ _ _
    (rw (← c.chunk_of_word-chunk.ensures) c.turn_over.ensures) _ c.in-Some.ensures refl

pub returns-in-None : goal.returns-in-None
returns-in-None c =
    emptied-anew c.args.size _ _ _ _ _ _ _ _ _ _ _ _ _ _ _ c.in-None.ensures
    c.rebuild.ensures
