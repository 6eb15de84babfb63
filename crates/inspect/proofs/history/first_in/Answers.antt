-- `inspect::history::first_in` meets its contract.
-- Assumes nothing.
use Rattle.std.proofs.Common.{sym, ap, ◌∙◌}
use Rattle.spec.specs.Words.{words_of}
use Rattle.logs.proofs.Walk.{remaining-start, fold_done, fold-wrong, fold-entry}
use Rattle.inspect.specs.History.{pass, or_none, first_in}
use Rattle.places.specs.Sizes.{power_of}
use Rattle.inspect.proofs.history.first_in.Goals as goal

pub loop-e-init : goal.loop-e-init
loop-e-init c = let a = c.args in rw (c.none-so.ensures, c.first_cursor-cursor.ensures, remaining-start (power_of a.size) a.count (words_of a.image.now))

pub returns-in-Ok-None : goal.returns-in-Ok-None
unfolding first_in
returns-in-Ok-None c = sym (ap or_none (c.loop-e.invariant ∙ fold_done _ _ _ _ (pass _ _) _ (rw c.in-Ok-None.field-0-is at c.in-Ok-None.ensures)))

pub returns-in-Err : goal.returns-in-Err
unfolding first_in
returns-in-Err c = c.none.ensures ∙ sym (ap or_none (c.loop-e.invariant ∙ fold-wrong _ _ _ _ (pass _ _) _ c.in-Err.ensures))

pub loop-e-smaller : goal.loop-e-smaller
loop-e-smaller c = (rw c.in-Ok-Some.field-0-is at c.in-Ok-Some.ensures).falls

pub loop-e-preserved : goal.loop-e-preserved
loop-e-preserved c = rw c.note-so.ensures (c.loop-e.invariant ∙ fold-entry _ _ _ _ (pass _ _) _ _ (rw c.in-Ok-Some.field-0-is at c.in-Ok-Some.ensures))
