-- `batch::pack_into` meets its contract.
-- Assumes nothing.
use Prim.Native.Nat.{◌+◌, ◌/◌}
use mathlib.Core.Path.{◌≡◌, sym, ◌∙◌, ap}
use native.Mathlib.Omega.{arith}
use lib.ListN.{length}
use lib.Seq.{take_all}
use Rattle.spec.specs.Words.{packed}
use Rattle.words.specs.Overlay.{overlay, overlay-turn}
use Rattle.words.proofs.Values.{length-packed, get_or-packed}
use Rattle.batch.proofs.pack_into.Goals as goal

pub loop-i-preserved : goal.loop-i-preserved
loop-i-preserved c = overlay-turn _ _ (packed c.args.value.now) _ _ _ c.loop-i.invariant (omega (arith, length-packed c.args.value.now)) (c.read_word.ensures ∙ sym (get_or-packed _ _))

pub returns-then-whole-count : goal.returns-then-whole-count
returns-then-whole-count c =
    let value = c.args.value.now in
    let whole : c.loop-i.i ≡ length value / 8 = omega arith in
    overlay-turn _ _ (packed value) _ _ _ (rw whole at c.loop-i.invariant) (omega (arith, length-packed value)) (c.last_word.ensures ∙ sym (get_or-packed _ _))
    ∙ ap (overlay _ _) (take_all (length value / 8 + 1) (packed value) (omega (arith, length-packed value)))

pub returns-else-whole-count : goal.returns-else-whole-count
returns-else-whole-count c =
    let value = c.args.value.now in
    c.loop-i.invariant ∙ ap (overlay _ _) (take_all c.loop-i.i (packed value) (omega (arith, length-packed value)))
