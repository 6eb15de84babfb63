-- The loops of `gathering::read_chunk`. The loop's invariant: the bytes before `i` are read; the measure falls by one
-- with each, so no byte is read again.
use Rattle.std.proofs.Common.{length}
use Rattle.gathering.proofs.Passes.{Reads}
use Rattle.gathering.proofs.read_chunk.Given as goal

abbrev pub invariant-loop-i : goal.invariant-loop-i
invariant-loop-i l = Reads (length l.initial.copy) l.image l.copy l.from l.i
