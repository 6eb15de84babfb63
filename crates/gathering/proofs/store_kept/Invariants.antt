-- The loops of `gathering::store_kept`.
use Rattle.buffer.specs.Areas.{second_start}
use Rattle.gathering.specs.Gathering.{Copied}
use Rattle.gathering.proofs.store_kept.Given as goal

abbrev pub invariant-loop-i : goal.invariant-loop-i
invariant-loop-i l = Copied l.kept l.initial.buffer l.buffer 0 second_start l.i
