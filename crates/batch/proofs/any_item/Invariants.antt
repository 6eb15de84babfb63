-- The loops of `batch::any_item`. The loop's invariant: the staged words say an item exactly if one was passed or one
-- is to come.
use Prim.Native.Nat.{◌-◌}
use mathlib.Core.Path.{◌≡◌}
use lib.Seq.{slice}
use Rattle.spec.specs.Log.{parse}
use Rattle.batch.specs.Items.{any_item}
use Rattle.batch.proofs.Any.{any_in}
use Rattle.batch.proofs.any_item.Given as goal

abbrev pub invariant-loop-at : goal.invariant-loop-at
invariant-loop-at l = any_item l.buffer l.words ≡ any_in l.any (parse (slice l.at l.end l.buffer) 0 l.at)

abbrev pub decreases-loop-at : goal.decreases-loop-at
decreases-loop-at l = l.end - l.at
