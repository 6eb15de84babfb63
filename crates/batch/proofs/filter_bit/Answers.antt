-- `batch::filter_bit` meets its contract.
-- Assumes nothing.
use borrow.Author.Rules.{rules}
use Rattle.session.specs.Filter.{filter_bit}
use Rattle.batch.proofs.filter_bit.Goals as goal

pub returns : goal.returns
unfolding filter_bit
returns c = search rules
