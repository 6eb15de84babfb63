-- `actions::block::block_count` meets its contract.
-- Assumes nothing.
use Rattle.actions.proofs.Filling.{count-plain, count-taking}
use Rattle.actions.proofs.block.block_count.Goals as goal

pub returns-then-setup-eq0 : goal.returns-then-setup-eq0
returns-then-setup-eq0 c =
    let a = c.args in
    let h = c.held_words-words in
    count-plain a.setup a.buffer.now h.result h.ensures.0 c.if-setup-eq0.true

pub returns-else-setup-eq0 : goal.returns-else-setup-eq0
returns-else-setup-eq0 c =
    let a = c.args in
    let h = c.held_words-words in
    count-taking a.setup a.buffer.now h.result h.ensures.0 c.if-setup-eq0.false
