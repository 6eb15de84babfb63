-- `text::number` meets its contract.
-- Assumes nothing.
use Rattle.std.proofs.lemmas.List.Sums.{prefix_len-le-length}
use Rattle.text.specs.Spelled.{is_digit}
use Rattle.text.proofs.Spelling.{behind-drop, number-some}
use Rattle.text.proofs.number.Goals as goal

pub split_at-requires : goal.split_at-requires
split_at-requires c = rw c.digits_before.ensures (prefix_len-le-length is_digit c.args.text.now)

pub returns-then-is_empty-clause-rest : goal.returns-then-is_empty-clause-rest
returns-then-is_empty-clause-rest c = rw (c.split_at.ensures.back, c.digits_before.ensures) (behind-drop c.args.text.now)

pub returns-else-is_empty-clause-value : goal.returns-else-is_empty-clause-value
returns-else-is_empty-clause-value c =
    let n = rw (c.is_empty.ensures, c.split_at.ensures.front, c.digits_before.ensures) at c.if-is_empty.false in
    rw (c.value.ensures, c.split_at.ensures.front, c.digits_before.ensures) (number-some c.args.text.now n)

pub returns-else-is_empty-clause-rest : goal.returns-else-is_empty-clause-rest
returns-else-is_empty-clause-rest c = rw (c.split_at.ensures.back, c.digits_before.ensures) (behind-drop c.args.text.now)
