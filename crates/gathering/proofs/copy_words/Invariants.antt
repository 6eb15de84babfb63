-- The loops of `gathering::copy_words`.
use Rattle.spec.specs.Words.{words_of}
use Rattle.gathering.specs.Gathering.{Copied}
use Rattle.gathering.proofs.copy_words.Given as goal

abbrev pub invariant-loop-i : goal.invariant-loop-i
invariant-loop-i l = Copied (words_of l.copy) l.initial.kept l.kept l.from l.to l.i
