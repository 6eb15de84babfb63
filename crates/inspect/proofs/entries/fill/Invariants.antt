-- The loops of `inspect::entries::fill`. The loop's invariant: the pass over the whole log is the pass over what
-- remains, from the words and the count so far.
use Rattle.std.proofs.Common.{◌≡◌, length}
use Rattle.spec.specs.Words.{words_of}
use Rattle.spec.specs.Log.{image_entries}
use Rattle.theory_log.specs.Fold.{fold_p}
use Rattle.logs.specs.Cursor.{remaining, left}
use Rattle.inspect.specs.Filling.{filling, pass}
use Rattle.places.specs.Sizes.{power_of}
use Rattle.inspect.proofs.entries.fill.Given as goal

abbrev pub invariant-loop-e : goal.invariant-loop-e
invariant-loop-e l =
    (length l.out ≡ length l.initial.out)
    × (fold_p (pass l.key l.from l.best) (filling l.initial.out 0) (image_entries (power_of l.size) l.chunks (words_of l.image)) ≡ fold_p (pass l.key l.from l.best) (filling l.out l.count) (remaining (power_of l.size) l.chunks (words_of l.image) l.cursor))

abbrev pub decreases-loop-e : goal.decreases-loop-e
decreases-loop-e l = left l.chunks (words_of l.image) l.cursor
