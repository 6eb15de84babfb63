-- The loops of `inspect::counts::count_blocks`. The loop's invariant: the pass over the whole log is the pass over what
-- remains, from what is counted so far.
use Rattle.std.proofs.Common.{◌≡◌}
use Rattle.spec.specs.Words.{words_of}
use Rattle.spec.specs.Log.{image_entries}
use Rattle.theory_log.specs.Fold.{fold_p}
use Rattle.logs.specs.Cursor.{remaining, left}
use Rattle.inspect.specs.ChunkCounts.{block_next}
use Rattle.places.specs.Sizes.{power_of}
use Rattle.inspect.proofs.counts.count_blocks.Given as goal

abbrev pub invariant-loop-e : goal.invariant-loop-e
invariant-loop-e l = fold_p (block_next l.size l.table l.chunk) 0 (image_entries (power_of l.size) l.count (words_of l.image)) ≡ fold_p (block_next l.size l.table l.chunk) l.used (remaining (power_of l.size) l.count (words_of l.image) l.cursor)

abbrev pub decreases-loop-e : goal.decreases-loop-e
decreases-loop-e l = left l.count (words_of l.image) l.cursor
