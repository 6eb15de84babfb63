-- The loops of `inspect::counts::count_entries`. The loop's invariant: the pass over the chunk is the pass over what
-- remains of it, from what is counted so far.
use Rattle.std.proofs.Common.{◌≡◌}
use Rattle.spec.specs.Words.{words_of}
use Rattle.spec.specs.Log.{chunk_entries}
use Rattle.theory_log.specs.Fold.{fold_p}
use Rattle.logs.specs.Cursor.{remaining, left}
use Rattle.inspect.specs.ChunkCounts.{nothing, count_next}
use Rattle.places.specs.Sizes.{power_of}
use Rattle.inspect.proofs.counts.count_entries.Given as goal

abbrev pub invariant-loop-e : goal.invariant-loop-e
invariant-loop-e l = fold_p (count_next l.size l.table) nothing (chunk_entries (power_of l.size) (words_of l.image) l.chunk) ≡ fold_p (count_next l.size l.table) l.t (remaining (power_of l.size) 0 (words_of l.image) l.cursor)

abbrev pub decreases-loop-e : goal.decreases-loop-e
decreases-loop-e l = left 0 (words_of l.image) l.cursor
