-- The loops of `running::commit::store_batch`. The loops' invariants: the stores up to the next one are made, wherever
-- control and setup say that so many words are staged and the batch begins there.
use mathlib.Core.Path.{◌≡◌}
use mathlib.Core.List.{List}
use Prim.Native.Nat.{ℕ, ◌+◌, ◌-◌, ◌*◌, ◌≤◌, min, max}
use Rattle.spec.specs.Places.{base}
use Rattle.session.specs.declared.Control.{Control}
use Rattle.session.specs.declared.Setup.{Setup}
use Rattle.buffer.specs.Areas.{batch_room}
use Rattle.session.specs.State.{power_in, chunk_in, lines_in}
use Rattle.running.specs.Fast.{StoresTo}
use Rattle.running.proofs.commit.store_batch.Given as goal

abbrev pub invariant-loop-at : goal.invariant-loop-at
invariant-loop-at l =
    (l.initial.at ≤ l.at) × ((l.at ≤ max l.initial.at l.words) × ((c : Control) (k : Setup) → l.words ≡ min c.words batch_room → l.start ≡ base (power_in k) (chunk_in k) + 8 * lines_in k → c.next ≡ l.initial.at → StoresTo c k l.buffer l.initial.image l.image l.at))

abbrev pub decreases-loop-at : goal.decreases-loop-at
decreases-loop-at l = l.words - l.at

abbrev pub invariant-loop-at-2 : goal.invariant-loop-at-2
invariant-loop-at-2 l =
    (l.initial.at ≤ l.at) × ((l.at ≤ max l.initial.at l.stores)
    × ((c : Control) (k : Setup) (bytes : List ℕ) → l.words ≡ min c.words batch_room → l.start ≡ base (power_in k) (chunk_in k) + 8 * lines_in k → StoresTo c k l.buffer bytes l.initial.image l.initial.at → StoresTo c k l.buffer bytes l.image l.at))

abbrev pub decreases-loop-at-2 : goal.decreases-loop-at-2
decreases-loop-at-2 l = l.stores - l.at
