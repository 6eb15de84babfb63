-- The loops of `apply::remove::remove_puts`. The loop's invariant: the run has come to `place`.
use Rattle.std.proofs.Common.{◌-◌, length, Some}
use Rattle.spec.specs.Words.{words_of}
use Rattle.apply.specs.Passes.{PutsLeft}
use Rattle.apply.proofs.remove.remove_puts.Given as goal

abbrev pub invariant-loop-put : goal.invariant-loop-put
invariant-loop-put l = PutsLeft l.size (words_of l.image) l.initial.table l.table l.keys l.from l.end l.to (Some (record { keys = l.count; to = l.copy; at = l.place }))

abbrev pub decreases-loop-put : goal.decreases-loop-put
decreases-loop-put l = length (words_of l.image) - l.place
