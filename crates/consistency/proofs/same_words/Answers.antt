-- `consistency::same_words` meets its contract.
-- Assumes nothing.
use Prim.Native.Nat.{◌<◌}
use mathlib.Core.Path.{sym, ◌∙◌}
use native.Mathlib.Omega.{arith}
use Rattle.spec.specs.Words.{words_of}
use Rattle.consistency.proofs.Same.{same-begin, same_end, same_next, same_not}
use Rattle.consistency.proofs.same_words.Goals as goal

pub loop-i-init : goal.loop-i-init
loop-i-init c = let a = c.args in same-begin (words_of a.image.now) a.a a.b a.n

pub returns-then-load : goal.returns-then-load
returns-then-load c =
    let a = c.args in
    let i = c.loop-i.i in
    let l : i < a.n = omega arith in
    sym (c.loop-i.invariant ∙ same_not (words_of a.image.now) a.a a.b a.n i l _ _ c.load.ensures c.load-in-loop-i.ensures c.if-load.true)

pub loop-i-preserved : goal.loop-i-preserved
loop-i-preserved c =
    let a = c.args in
    let i = c.loop-i.i in
    let l : i < a.n = omega arith in
    c.loop-i.invariant ∙ same_next (words_of a.image.now) a.a a.b a.n i l _ _ c.load.ensures c.load-in-loop-i.ensures c.if-load.false

pub returns : goal.returns
returns c =
    let a = c.args in
    same_end (words_of a.image.now) a.a a.b a.n c.loop-i.i (omega arith) ∙ sym c.loop-i.invariant
