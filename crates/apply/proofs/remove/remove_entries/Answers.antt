-- `apply::remove::remove_entries` meets its contract.
-- Assumes nothing.
use Rattle.std.proofs.Common.{arith}
use Rattle.words.specs.Image.{length-words_of}
use Rattle.apply.proofs.Walks.{leaves-start, leaves_run, leaves-done, leaves-next}
use Rattle.apply.proofs.remove.remove_entries.Goals as goal

pub loop-run-init : goal.loop-run-init
loop-run-init c = leaves-start c.args.size _ _ _ _ _ _ _

pub returns-in-Ok-None : goal.returns-in-Ok-None
returns-in-Ok-None c =
    let a = c.args in
    leaves-done a.size _ _ _ _ _ _ _ _ _ _ _
    (leaves_run a.size _ _ _ _ _ _ _ _ _ _ c.loop-run.cursor c.loop-run.invariant _ _ c.in_ok-run.ensures)
    (rw c.in-Ok-None.field-0-is at c.in-Ok-None.ensures)

pub loop-run-preserved : goal.loop-run-preserved
loop-run-preserved c =
    let a = c.args in
    let h = rw c.in-Ok-Some.field-0-is at c.in-Ok-Some.ensures in
    let f = h.stands.fits in
    let s = h.size in
    let n = length-words_of a.image.now in
    leaves-next a.size _ _ _ _ _ _ _ _ _ _ _
    (leaves_run a.size _ _ _ _ _ _ _ _ _ _ c.loop-run.cursor c.loop-run.invariant _ _ c.in_ok-run.ensures)
    _ h (omega arith) _ c.is_copied-copied.ensures _ _ c.in_ok-went-in-Ok-Some.ensures
