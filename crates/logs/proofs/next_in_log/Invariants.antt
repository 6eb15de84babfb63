-- The loops of `logs::next_in_log`. The loop's invariant: the same remains from the place reached as from the cursor
-- given, and it is no farther from the end.
use Prim.Native.Nat.{◌≤◌}
use mathlib.Core.Path.{◌≡◌}
use Rattle.spec.specs.Words.{words_of}
use Rattle.places.specs.Sizes.{power_of}
use Rattle.logs.specs.Cursor.{remaining, left}
use Rattle.logs.proofs.next_in_log.Given as goal

abbrev pub invariant-loop-here : goal.invariant-loop-here
invariant-loop-here l =
    record {
      same : remaining (power_of l.size) l.count (words_of l.img) l.fn.cursor ≡ remaining (power_of l.size) l.count (words_of l.img) l.here;
      nearer : left l.count (words_of l.img) l.here ≤ left l.count (words_of l.img) l.fn.cursor;
    }

abbrev pub decreases-loop-here : goal.decreases-loop-here
decreases-loop-here l = left l.count (words_of l.img) l.here
