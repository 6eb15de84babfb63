-- The loops of `placing::lines::next_chunk`. The loop's invariant: no chunk from the start on and before c has space.
use Prim.Native.Nat.{ℕ, ◌≤◌, ◌<◌}
use mathlib.Core.Path.{◌≡◌}
use mathlib.Core.Bool.{false}
use Rattle.spec.specs.Words.{words_of}
use Rattle.places.specs.Sizes.{power_of}
use Rattle.spec.specs.Plans.{has_space}
use Rattle.placing.proofs.lines.next_chunk.Given as goal

abbrev pub invariant-loop-c : goal.invariant-loop-c
invariant-loop-c l = (d : ℕ) → l.from ≤ d → d < l.c → has_space (power_of l.size) (words_of l.image) l.lines l.x d ≡ false
