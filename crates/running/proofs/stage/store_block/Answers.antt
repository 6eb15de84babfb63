-- `running::stage::store_block` meets its contract.
-- Assumes nothing.
use native.Mathlib.Omega.{arith}
use Rattle.running.proofs.Staging.{behind-all, at-the-flush, one-taken, all-stored}
use Rattle.running.proofs.stage.store_block.Goals as goal

pub returns-then-behind-at : goal.returns-then-behind-at
returns-then-behind-at c = behind-all _ _ _ _ _ _ c.take_count-first.ensures.0 c.held_words-held.ensures.0 (omega arith)

pub returns-then-first-at : goal.returns-then-first-at
returns-then-first-at c =
    let a = c.args in
    all-stored a.control a.setup a.buffer.now _ _ _ _ _ c.take_count-first.ensures.0
    c.held_words-held.ensures.0
    (let u = c.unit_of-unit.ensures.0 in let l = c.unit_of-unit.ensures.1 in let w =
    c.word_offset-start.ensures in omega arith) (omega arith) (omega arith) _
    c.store_area.ensures

pub returns-then-at-eq0 : goal.returns-then-at-eq0
returns-then-at-eq0 c =
    let t = c.take_count-first.ensures.0 in
    one-taken _ _ _ _ _ t (omega arith) (omega arith) _ _ c.block_action-action.ensures
    c.perform.ensures

pub returns : goal.returns
returns c = at-the-flush _ _ _ _ _ c.take_count-first.ensures.0 (omega arith) c.take_count-first.ensures.1 c.if-at-eq0.false
