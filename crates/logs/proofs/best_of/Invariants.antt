-- The loops of `logs::best_of`. The loop's invariant: the pass over the whole log is the pass over what remains, from
-- the best so far.
use mathlib.Core.Path.{◌≡◌}
use Rattle.spec.specs.Words.{words_of}
use Rattle.places.specs.Sizes.{power_of}
use Rattle.spec.specs.Log.{image_entries}
use Rattle.theory_log.specs.Fold.{fold_p}
use Rattle.logs.specs.Cursor.{remaining, left}
use Rattle.logs.specs.Best.{nothing, pass}
use Rattle.logs.proofs.best_of.Given as goal

abbrev pub invariant-loop-e : goal.invariant-loop-e
invariant-loop-e l =
    fold_p (pass l.key) nothing (image_entries (power_of l.size) l.count (words_of l.img))
    ≡ fold_p (pass l.key) l.best (remaining (power_of l.size) l.count (words_of l.img) l.cursor)

abbrev pub decreases-loop-e : goal.decreases-loop-e
decreases-loop-e l = left l.count (words_of l.img) l.cursor
