-- The loops of `batch::pack_into`. The loop's invariant: the first i words of the value are laid over the buffer.
use mathlib.Core.Path.{◌≡◌}
use lib.ListN.{take}
use Rattle.spec.specs.Words.{packed}
use Rattle.words.specs.Overlay.{overlay}
use Rattle.batch.proofs.pack_into.Given as goal

abbrev pub invariant-loop-i : goal.invariant-loop-i
invariant-loop-i l = l.buffer ≡ overlay l.initial.buffer l.at (take l.i (packed l.value))
