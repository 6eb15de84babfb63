-- `actions::block::fill_action` meets its contract.
-- Assumes nothing.
use native.Mathlib.Omega.{arith}
use Rattle.actions.proofs.Filling.{shows-store, shows-flush, shows-past}
use Rattle.actions.proofs.block.fill_action.Goals as goal

pub returns-then-at-words : goal.returns-then-at-words
returns-then-at-words c =
    let a = c.args in
    let h = c.held_words-words in
    shows-store a.setup a.unit.0 a.buffer.now h.result a.at h.ensures.0 _ (omega arith) (omega arith)

pub returns-then-at-words-2 : goal.returns-then-at-words-2
returns-then-at-words-2 c =
    let a = c.args in
    let h = c.held_words-words in
    shows-flush a.setup a.unit.0 a.buffer.now h.result a.at h.ensures.0 _ (omega arith) (omega arith) (omega arith)

pub returns-else-at-words-2 : goal.returns-else-at-words-2
returns-else-at-words-2 c =
    let a = c.args in
    let h = c.held_words-words in
    shows-past a.setup a.unit.0 a.buffer.now h.result a.at h.ensures.0 (omega arith)
