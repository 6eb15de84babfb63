-- `consistency::partition::pass_over` meets its contract.
-- Assumes nothing.
use mathlib.Core.Path.{sym, ◌∙◌}
use native.Mathlib.Omega.{arith}
use Rattle.spec.specs.Words.{words_of}
use Rattle.words.specs.Image.{length-words_of}
use Rattle.consistency.proofs.Passed.{over-start, over-padding, over-put}
use Rattle.consistency.proofs.partition.pass_over.Goals as goal

pub loop-place-init : goal.loop-place-init
loop-place-init c = over-start _ _ _ _ _ _ _

pub loop-place-preserved-then-word-eq0 : goal.loop-place-preserved-then-word-eq0
loop-place-preserved-then-word-eq0 c =
    let a = c.args in
    let n = length-words_of a.image.now in
    let s = c.min-stop.ensures in
    over-padding (words_of a.image.now) a.end a.asked.single a.asked.marks.now a.asked.classes.low a.asked.classes.high a.at
    c.loop-place.place c.loop-place.invariant (omega arith) (omega arith)
    (sym c.if-word-eq0.true ∙ c.load-word.ensures)

pub loop-place-preserved : goal.loop-place-preserved
loop-place-preserved c =
    let a = c.args in
    let n = length-words_of a.image.now in
    let s = c.min-stop.ensures in
    over-put (words_of a.image.now) a.end a.asked.single a.asked.marks.now a.asked.classes.low a.asked.classes.high a.at
    c.loop-place.place c.loop-place.invariant (omega arith) (omega arith) c.load-word.result
    c.load-word.ensures (omega arith) _ c.load.ensures
    (sym c.holds.ensures ∙ c.if-not-holds.true)
