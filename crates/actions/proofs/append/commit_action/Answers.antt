-- A commit's actions are those that put the batch's words behind the committed lines.
-- Assumes nothing.
use Rattle.session.specs.State.{batch_words, commit_actions}
use Rattle.actions.proofs.append.commit_action.Goals as goal

pub returns : goal.returns
unfolding commit_actions batch_words
returns c = rw c.min.ensures at c.append_action.ensures
