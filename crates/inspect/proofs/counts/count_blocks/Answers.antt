-- `inspect::counts::count_blocks` meets its contract.
-- Assumes nothing.
use Rattle.std.proofs.Common.{sym, ap, ◌∙◌}
use Rattle.spec.specs.Words.{words_of}
use Rattle.logs.proofs.Walk.{remaining-start, fold_done, fold-wrong, fold-entry}
use Rattle.inspect.specs.ChunkCounts.{block_next, or_zero, blocks_by}
use Rattle.places.specs.Sizes.{power_of}
use Rattle.inspect.proofs.counts.count_blocks.Goals as goal

pub loop-e-init : goal.loop-e-init
loop-e-init c = rw (c.first_cursor-cursor.ensures, remaining-start (power_of c.args.size) c.args.count (words_of c.args.image.now))

pub returns-in-Ok-None : goal.returns-in-Ok-None
unfolding blocks_by
returns-in-Ok-None c = sym (ap or_zero (c.loop-e.invariant ∙ fold_done _ _ _ _ (block_next c.args.size _ _) _ (rw c.in-Ok-None.field-0-is at c.in-Ok-None.ensures)))

pub returns-in-Err : goal.returns-in-Err
unfolding blocks_by
returns-in-Err c = sym (ap or_zero (c.loop-e.invariant ∙ fold-wrong _ _ _ _ (block_next c.args.size _ _) _ c.in-Err.ensures))

pub loop-e-smaller : goal.loop-e-smaller
loop-e-smaller c = (rw c.in-Ok-Some.field-0-is at c.in-Ok-Some.ensures).falls

pub loop-e-preserved : goal.loop-e-preserved
loop-e-preserved c = rw c.count_block-used.ensures (c.loop-e.invariant ∙ fold-entry _ _ _ _ (block_next c.args.size _ _) _ _ (rw c.in-Ok-Some.field-0-is at c.in-Ok-Some.ensures))
