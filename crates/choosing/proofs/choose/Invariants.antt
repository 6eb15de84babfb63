-- The loops of `choosing::choose`. The loop's invariant: the best of the chunks below c.
use Rattle.spec.specs.Words.{words_of}
use Rattle.choosing.proofs.Loop.{Looked}
use Rattle.choosing.proofs.choose.Given as goal

abbrev pub invariant-loop-c : goal.invariant-loop-c
invariant-loop-c l = Looked l.size (words_of l.image) l.table l.buffer l.count l.c l.best
