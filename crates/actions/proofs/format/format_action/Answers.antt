-- Each action of a formatting is the definitions'.
-- Assumes nothing.
use native.Mathlib.Omega.{arith}
use Rattle.actions.proofs.Formatting.{shows-front, shows-word, shows-line, shows-fence, shows-back}
use Rattle.actions.proofs.format.format_action.Goals as goal

pub returns-then-at-lt-ZEROED : goal.returns-then-at-lt-ZEROED
returns-then-at-lt-ZEROED c = let a = c.args in shows-front a.setup a.at c.word_action.result (omega arith) c.word_action.ensures

pub returns-then-at-lt-STORED : goal.returns-then-at-lt-STORED
returns-then-at-lt-STORED c = let a = c.args in shows-word a.setup a.at _ _ (omega arith) (omega arith) (omega arith) c.register_word.ensures

pub returns-then-at-lt-FLUSHED : goal.returns-then-at-lt-FLUSHED
returns-then-at-lt-FLUSHED c = let a = c.args in shows-line a.setup a.at _ (omega arith) (omega arith) (omega arith)

pub returns-then-at-lt-FENCED : goal.returns-then-at-lt-FENCED
returns-then-at-lt-FENCED c = let a = c.args in shows-fence a.setup a.at (omega arith)

pub returns-else-at-lt-FENCED : goal.returns-else-at-lt-FENCED
returns-else-at-lt-FENCED c =
    let a = c.args in
    shows-back a.setup a.at _ _ (omega arith) c.register_word-else-at-lt-FENCED.ensures c.word_action-else-at-lt-FENCED.ensures
