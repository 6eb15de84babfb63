-- `gathering::measure::kept_size` meets its contract: the sizes of a chunk's words are given as numbers.
-- Assumes nothing.
use Rattle.std.proofs.Common.{refl}
use Rattle.spec.specs.Places.{chunk_words}
use Rattle.gathering.proofs.measure.kept_size.Goals as goal

pub size_in-requires : goal.size_in-requires
unfolding chunk_words
size_in-requires c = rw c.in-Small.is refl

pub size_in-requires-in-Large : goal.size_in-requires-in-Large
unfolding chunk_words
size_in-requires-in-Large c = rw c.in-Large.is refl
