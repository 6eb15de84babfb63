-- `mix` meets its contract. Assumes nothing.
use Rattle.index.specs.Index.{mix_of}
use borrow.Author.Rules.{rules}
use Rattle.index.proofs.mix.Goals as goal

pub returns : goal.returns
unfolding mix_of
returns c = search rules
