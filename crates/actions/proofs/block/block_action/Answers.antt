-- `actions::block::block_action` meets its contract.
-- Assumes nothing.
use native.Mathlib.Omega.{arith}
use Rattle.actions.proofs.Filling.{whole_plain, whole_take, whole-fill}
use Rattle.actions.proofs.block.block_action.Goals as goal

pub returns-then-size-eq0 : goal.returns-then-size-eq0
returns-then-size-eq0 c =
    let a = c.args in
    let u = c.unit_of-unit in
    whole_plain a.setup a.buffer.now _ u.result.0 a.at c.if-size-eq0.true u.ensures.0 c.fill_action.ensures

pub returns-then-at-lt2 : goal.returns-then-at-lt2
returns-then-at-lt2 c =
    let a = c.args in
    whole_take a.setup a.buffer.now _ a.at _ c.if-size-eq0.false (omega arith) c.data_word.ensures c.word_action.ensures

pub returns-else-at-lt2 : goal.returns-else-at-lt2
returns-else-at-lt2 c =
    let a = c.args in
    let u = c.unit_of-unit in
    whole-fill a.setup a.buffer.now _ u.result.0 a.at _ c.if-size-eq0.false (omega arith) u.ensures.0 c.fill_action-else-at-lt2.ensures
