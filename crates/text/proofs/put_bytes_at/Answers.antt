-- `text::put_bytes_at` meets its contract.
-- Assumes nothing.
use Rattle.std.proofs.Common.{arith}
use Rattle.text.proofs.Texts.{lent-fits, lent-not}
use Rattle.text.proofs.put_bytes_at.Goals.{then-text-at-via-then-text-at, then-text-at-via-else-text-at+then-text-at-2}
use Rattle.text.proofs.put_bytes_at.Goals as goal

pub returns-then-text-at : goal.returns-then-text-at
returns-then-text-at c = lent-not c.args.text.now c.args.bytes.now c.args.at (elim c.then-text-at.branch [ then-text-at-via-then-text-at w ↦ omega arith | then-text-at-via-else-text-at+then-text-at-2 w ↦ omega arith ])

pub returns : goal.returns
returns c = lent-fits c.args.text.now c.args.bytes.now c.args.at _ (omega arith) c.copy_from_slice.ensures.after
