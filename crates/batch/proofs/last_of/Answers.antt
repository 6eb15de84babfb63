-- `batch::last_of` meets its contract.
-- Assumes nothing.
use mathlib.Core.Path.{sym}
use native.Mathlib.Omega.{arith}
use Rattle.theory_log.specs.Fold.{fold_e}
use Rattle.batch.specs.Items.{pass, latest_of}
use Rattle.batch.proofs.Pass.{pass-start, pass-next, pass-end, later-pass}
use Rattle.batch.proofs.last_of.Goals as goal

pub loop-at-init : goal.loop-at-init
unfolding latest_of
loop-at-init c = let a = c.args in pass-start a.buffer.now a.words (latest_of a.key)

pub loop-at-preserved : goal.loop-at-preserved
loop-at-preserved c =
    let a = c.args in
    let at = c.loop-at in
    let item = c.item_at-item in
    let last = c.later-latest in
    pass-next a.buffer.now a.words (latest_of a.key) at.at (fold_e (pass a.key) at.latest)
    item.result (omega arith) item.ensures.0 at.invariant
    (fold_e (pass a.key) last.result)
    (later-pass a.key at.latest last.result item.result last.ensures)

pub returns : goal.returns
returns c items s =
    let a = c.args in
    let at = c.loop-at in
    sym (pass-end a.buffer.now a.words (latest_of a.key) at.at (fold_e (pass a.key) at.latest) (omega arith) at.invariant items s)
