-- `gathering::gather` meets its contract: the sizes of a chunk's words are given as numbers.
-- Assumes nothing.
use Rattle.std.proofs.Common.{refl}
use Rattle.spec.specs.Places.{chunk_bytes}
use Rattle.gathering.proofs.gather.Goals as goal

pub gather_in-requires : goal.gather_in-requires
unfolding chunk_bytes
gather_in-requires c = (c.requires.0, c.requires.1, rw c.in-Small.is refl)

pub gather_in-requires-in-Large : goal.gather_in-requires-in-Large
unfolding chunk_bytes
gather_in-requires-in-Large c = (c.requires.0, c.requires.1, rw c.in-Large.is refl)
