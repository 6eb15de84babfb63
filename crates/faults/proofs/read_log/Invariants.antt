-- The loops of `faults::read_log`. The loop's invariant: what is left from the place reached stops where the whole
-- stops; and there are no more entries before it than words.
use mathlib.Core.Path.{◌≡◌}
use Prim.Native.Nat.{◌+◌, ◌-◌, ◌*◌, ◌≤◌}
use Rattle.places.specs.Sizes.{power_of}
use Rattle.spec.specs.Words.{words_of}
use Rattle.faults.specs.Reading.{read_image, stop_by}
use Rattle.faults.proofs.Left.{left_from}
use Rattle.faults.proofs.read_log.Given as goal

abbrev pub invariant-loop-chunk : goal.invariant-loop-chunk
invariant-loop-chunk l = (stop_by 0 (read_image (power_of l.size) l.count (words_of l.image)) ≡ stop_by l.before (left_from (power_of l.size) l.count (words_of l.image) l.chunk l.at l.end)) × (l.before + ((l.count - l.chunk) * 10000 + (l.end - l.at)) ≤ 5040000) × (l.chunk ≤ 504)

abbrev pub decreases-loop-chunk : goal.decreases-loop-chunk
decreases-loop-chunk l = (l.count - l.chunk) * 10000 + (l.end - l.at)
