-- `gathering::take_rest` meets its contract: the sizes of a chunk's words are given as numbers.
-- Assumes nothing.
use Rattle.std.proofs.Common.{refl}
use Rattle.spec.specs.Places.{chunk_words}
use Rattle.gathering.proofs.take_rest.Goals as goal

pub rest_in-requires : goal.rest_in-requires
unfolding chunk_words
rest_in-requires c = (c.requires.0, c.requires.1, rw c.in-Small.is refl)

pub rest_in-requires-in-Large : goal.rest_in-requires-in-Large
unfolding chunk_words
rest_in-requires-in-Large c = (c.requires.0, c.requires.1, rw c.in-Large.is refl)
