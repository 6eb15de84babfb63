-- `running::commit::store_batch` meets its contract.
-- Assumes nothing.
use mathlib.Core.Path.{refl}
use native.Mathlib.Omega.{arith}
use Rattle.running.proofs.Fast.{none_yet, one_word, one-zero}
use Rattle.running.proofs.commit.store_batch.Goals as goal

pub loop-at-init : goal.loop-at-init
loop-at-init c = (omega arith, (omega arith, λ x k ew es en. none_yet x k _ _ _ en))

pub loop-at-preserved : goal.loop-at-preserved
loop-at-preserved c =
    let i = c.loop-at.invariant in
    let low = i.0 in
    let high = i.1.0 in (
      omega arith,
      (
        omega arith,
        λ x k ew es en. one_word x k _ _ _ _ (i.1.1 x k ew es en) _ _ _ _ ew es
            c.save.ensures c.loop-at-test.true refl,
      ),
    )

pub loop-at-2-init : goal.loop-at-2-init
loop-at-2-init c = (omega arith, (omega arith, λ x k bytes ew es s. s))

pub loop-at-2-preserved : goal.loop-at-2-preserved
loop-at-2-preserved c =
    let i = c.loop-at-2.invariant in
    let low = i.0 in
    let high = i.1.0 in (
      omega arith,
      (
        omega arith,
        λ x k bytes ew es s. one-zero x k _ _ _ _ (i.1.1 x k bytes ew es s) _ _ _ _ ew es
            c.save-in-loop-at-2.ensures (omega arith) (omega arith) refl,
      ),
    )

pub shape_of-image : goal.shape_of-image
shape_of-image c =
    let a = c.args in
    let w = c.min-words.ensures in
    let s = c.batch_start-start.ensures.0 in
    (c.loop-at-2.invariant.1.1 a.control a.setup _ w s
    (c.loop-at.invariant.1.1 a.control a.setup w s refl)).made.sized

pub returns : goal.returns
returns c =
    let a = c.args in
    let w = c.min-words.ensures in
    let s = c.batch_start-start.ensures.0 in
    let i = c.loop-at.invariant in
    let j = c.loop-at-2.invariant in
    let low = i.0 in
    let high = i.1.0 in
    let low2 = j.0 in
    let high2 = j.1.0 in
    (j.1.1 a.control a.setup _ w s (i.1.1 a.control a.setup w s refl), omega arith)
