-- The loops of `inspect::history::first_in`. The loop's invariant: the pass over the whole log is the pass over what
-- remains, from the entry found so far.
use Rattle.std.proofs.Common.{◌≡◌}
use Rattle.spec.specs.Words.{words_of}
use Rattle.spec.specs.Log.{image_entries}
use Rattle.theory_log.specs.Fold.{fold_p}
use Rattle.logs.specs.Cursor.{remaining, left}
use Rattle.inspect.specs.History.{no_entry, pass}
use Rattle.places.specs.Sizes.{power_of}
use Rattle.inspect.proofs.history.first_in.Given as goal

abbrev pub invariant-loop-e : goal.invariant-loop-e
invariant-loop-e l = fold_p (pass l.key l.from) no_entry (image_entries (power_of l.size) l.count (words_of l.image)) ≡ fold_p (pass l.key l.from) l.so (remaining (power_of l.size) l.count (words_of l.image) l.cursor)

abbrev pub decreases-loop-e : goal.decreases-loop-e
decreases-loop-e l = left l.count (words_of l.image) l.cursor
