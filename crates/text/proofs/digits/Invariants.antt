-- The loop of `text::digits`.
use Rattle.text.proofs.Decimals.{Spelling}
use Rattle.text.proofs.digits.Given as goal

abbrev pub invariant-loop-from : goal.invariant-loop-from
invariant-loop-from l = Spelling l.initial.out l.number l.out l.from l.rest
