-- `inspect::counts::count_entries` meets its contract.
-- Assumes nothing.
use Rattle.std.proofs.Common.{sym, ap, ◌∙◌, arith}
use Rattle.spec.specs.Words.{words_of}
use Rattle.logs.proofs.Walk.{remaining-chunk, fold_done, fold-wrong, fold-entry}
use Rattle.inspect.specs.ChunkCounts.{count_next, or_nothing, tally_by}
use Rattle.places.specs.Sizes.{power_of}
use Rattle.inspect.proofs.counts.count_entries.Goals as goal

pub loop-e-init : goal.loop-e-init
loop-e-init c = rw (remaining-chunk (power_of c.args.size) (words_of c.args.image.now) c.args.chunk 0 c.chunk_cursor-cursor.result (omega arith) c.chunk_cursor-cursor.ensures)

pub returns-in-Ok-None : goal.returns-in-Ok-None
unfolding tally_by
returns-in-Ok-None c = sym (ap or_nothing (c.loop-e.invariant ∙ fold_done _ _ _ _ (count_next c.args.size _) _ (rw c.in-Ok-None.field-0-is at c.in-Ok-None.ensures)))

pub returns-in-Err : goal.returns-in-Err
unfolding tally_by
returns-in-Err c = sym (ap or_nothing (c.loop-e.invariant ∙ fold-wrong _ _ _ _ (count_next c.args.size _) _ c.in-Err.ensures))

pub loop-e-smaller : goal.loop-e-smaller
loop-e-smaller c = (rw c.in-Ok-Some.field-0-is at c.in-Ok-Some.ensures).falls

pub loop-e-preserved : goal.loop-e-preserved
loop-e-preserved c = rw c.count_entry-t.ensures (c.loop-e.invariant ∙ fold-entry _ _ _ _ (count_next c.args.size _) _ _ (rw c.in-Ok-Some.field-0-is at c.in-Ok-Some.ensures))
