-- `running::stage::store_area` meets its contract.
-- Assumes nothing.
use mathlib.Core.Path.{refl}
use native.Mathlib.Omega.{arith}
use Rattle.running.proofs.Stores.{none-saved, one-saved, two-saved, all_saved, so-far-length, next_word}
use Rattle.running.proofs.stage.store_area.Goals as goal

pub loop-i-init : goal.loop-i-init
loop-i-init c = (none-saved _ _ _ _, omega arith)

pub loop-i-preserved : goal.loop-i-preserved
loop-i-preserved c =
    let at = c.loop-i in
    (two-saved _ _ _ _ _ _ _ _ _ _ at.invariant.0 refl c.save.ensures (next_word c.args.buffer.now at.i) c.save-in-loop-i.ensures, omega arith)

pub shape_of-image-then-end-i : goal.shape_of-image-then-end-i
shape_of-image-then-end-i c = so-far-length _ _ _ _ _ _ c.loop-i.invariant.0

pub returns-then-end-i : goal.returns-then-end-i
returns-then-end-i c = all_saved _ _ _ _ _ _ _ c.loop-i.invariant.0 (omega arith)

pub shape_of-image : goal.shape_of-image
shape_of-image c =
    let at = c.loop-i in
    so-far-length _ _ _ _ _ _ (one-saved _ _ _ _ _ _ _ _ at.invariant.0 refl c.save-2.ensures)

pub returns : goal.returns
returns c =
    let at = c.loop-i in
    all_saved _ _ _ _ _ _ _ (one-saved _ _ _ _ _ _ _ _ at.invariant.0 refl c.save-2.ensures)
    (omega arith)
