-- `cleaning::plan_data` meets its contract.
-- Assumes nothing.
use Rattle.spec.specs.Words.{words_of}
use Rattle.cleaning.proofs.PlanShows.{data-live, data-dead}
use Rattle.cleaning.proofs.plan_data.Goals as goal

pub returns-then-has_live : goal.returns-then-has_live
returns-then-has_live c = data-live c.args.size (words_of c.args.image.now) c.args.buffer.now c.args.chunk c.args.first c.has_live.result c.has_live.ensures c.if-has_live.true

pub returns : goal.returns
returns c = data-dead c.args.size (words_of c.args.image.now) c.args.buffer.now c.args.chunk c.args.first c.has_live.result c.has_live.ensures c.if-has_live.false _ _ c.directory_word.ensures c.lines_of.ensures.0
