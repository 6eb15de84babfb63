-- `consistency::partition::class_of` meets its contract. Assumes nothing.
use borrow.Author.Rules.{rules}
use Rattle.consistency.specs.Classes.{class_of}
use Rattle.consistency.proofs.partition.class_of.Goals as goal

pub returns : goal.returns
unfolding class_of
returns c = search rules
