-- The loops of `placing::blocks::find_block`. The loops' invariants: the first spare block of all is the first of those
-- from chunk c on, and within a chunk the first of those from its block j on.
use Rattle.std.proofs.Common.{◌≡◌, None}
use Rattle.placing.proofs.Search.{Left, from_chunk, from_block}
use Rattle.placing.proofs.blocks.find_block.Given as goal

abbrev pub invariant-loop-j : goal.invariant-loop-j
invariant-loop-j l = (l.found ≡ None) × Left l.size l.image l.chunks l.units l.buffer l.words (from_block l.size l.image l.chunks l.units l.buffer l.words l.c l.blocks l.j)

abbrev pub invariant-chunks : goal.invariant-chunks
invariant-chunks l = (l.found ≡ None) × Left l.size l.image l.chunks l.units l.buffer l.words (from_chunk l.size l.image l.chunks l.units l.buffer l.words l.c)
