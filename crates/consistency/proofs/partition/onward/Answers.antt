-- `consistency::partition::onward` meets its contract.
-- Assumes nothing.
use native.Mathlib.Omega.{arith}
use Rattle.places.specs.Sizes.{power_of}
use Rattle.spec.specs.Words.{words_of}
use Rattle.consistency.proofs.Onwards.{onward-start, onward-more}
use Rattle.consistency.proofs.partition.onward.Goals as goal

pub loop-next-init : goal.loop-next-init
loop-next-init c = onward-start (power_of c.args.size) c.args.count (words_of c.args.image.now) c.args.c c.chunk_cursor-next.result c.chunk_cursor-next.ensures

pub loop-next-smaller : goal.loop-next-smaller
loop-next-smaller c =
    let e = c.chunk_cursor-next-in-loop-next.ensures.chunk in
    omega (arith, c.saturating_sub-last.ensures)

pub loop-next-preserved : goal.loop-next-preserved
loop-next-preserved c =
    let a = c.args in
    onward-more (power_of a.size) a.count _ _ c.loop-next.next c.loop-next.invariant (omega arith) (omega (arith, c.saturating_sub-last.ensures)) _
    c.chunk_cursor-next-in-loop-next.ensures
