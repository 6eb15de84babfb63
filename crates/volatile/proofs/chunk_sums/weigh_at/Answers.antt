-- `weigh_at` meets its contract.
-- Assumes nothing.
use Rattle.spec.specs.Words.{words_of}
use Rattle.volatile.proofs.Weights.{at-extent, at_entry}
use Rattle.volatile.proofs.chunk_sums.weigh_at.Goals as goal

pub returns-then-extent-gt0 : goal.returns-then-extent-gt0
returns-then-extent-gt0 c = at-extent c.args.size (words_of c.args.image.now) _ _ _ c.if-extent-gt0.true c.weigh_extent.ensures

pub returns-in-Entry : goal.returns-in-Entry
returns-in-Entry c =
    at_entry c.args.size (words_of c.args.image.now) _ _ _ _ c.load.ensures c.first_of-first.ensures _
    _ _ _ _ _ c.in-Entry.is c.words_for.ensures.0 c.weigh.ensures
