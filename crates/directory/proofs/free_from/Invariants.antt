-- The loop of `directory::free_from`. The loop's invariant: where no chunk below `from` is free, of the chunks before
-- c so many are free, too few, and `first` is the first of them.
use Prim.Native.Nat.{ℕ, ◌≤◌, ◌<◌}
use mathlib.Core.Path.{◌≡◌}
use mathlib.Core.Bool.{Bool, false}
use mathlib.Core.List.{List}
use Rattle.spec.specs.Words.{words_of}
use Rattle.spec.specs.declared.Size.{Size}
use Rattle.spec.specs.Directory.{role_at, is_free}
use Rattle.directory.proofs.Several.{Counted}
use Rattle.places.specs.Sizes.{power_of}
use Rattle.directory.proofs.free_from.Given as goal

abbrev pub free : Size → List ℕ → ℕ → Bool
free size image d = is_free (role_at (power_of size) (words_of image) d)

abbrev pub NoneBefore : Size → List ℕ → ℕ → Type 0
NoneBefore size image from = (d : ℕ) → 1 ≤ d → d < from → free size image d ≡ false

abbrev pub invariant-loop-c : goal.invariant-loop-c
invariant-loop-c l = (l.seen < l.c) × (NoneBefore l.size l.image l.from → (1 ≤ l.seen → l.seen < l.needed) × Counted (free l.size l.image) 1 l.c l.first l.seen)
