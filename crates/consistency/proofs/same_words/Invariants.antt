-- The loop of `consistency::same_words`. Its invariant: the comparison of all words is that of the words from i on.
use Prim.Native.Nat.{◌+◌, ◌-◌}
use mathlib.Core.Path.{◌≡◌}
use Rattle.spec.specs.Words.{words_of}
use Rattle.consistency.specs.Heads.{same_from}
use Rattle.consistency.proofs.same_words.Given as goal

abbrev pub invariant-loop-i : goal.invariant-loop-i
invariant-loop-i l = same_from (words_of l.image) l.a l.b l.n ≡ same_from (words_of l.image) (l.a + l.i) (l.b + l.i) (l.n - l.i)
