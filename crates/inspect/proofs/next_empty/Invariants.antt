-- The loop of `inspect::next_empty`. Its invariant: no chunk before c is an empty data chunk.
use Rattle.std.proofs.Common.{◌≡◌, ℕ, ◌<◌, ◌≤◌, false}
use Rattle.spec.specs.Words.{words_of}
use Rattle.inspect.specs.ByTable.{empty_by}
use Rattle.inspect.proofs.next_empty.Given as goal

abbrev pub invariant-loop-c : goal.invariant-loop-c
invariant-loop-c l = (d : ℕ) → 1 ≤ d → d < l.c → empty_by l.size (words_of l.image) l.table l.count l.from d ≡ false
