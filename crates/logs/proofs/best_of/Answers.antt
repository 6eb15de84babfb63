-- `logs::best_of` meets its contract.
-- Assumes nothing.
use mathlib.Core.Path.{sym, ◌∙◌, ap}
use Rattle.spec.specs.Words.{words_of}
use Rattle.places.specs.Sizes.{power_of}
use Rattle.logs.specs.Best.{pass, or_nothing, best_in}
use Rattle.logs.proofs.Walk.{remaining-start, fold_done, fold-wrong}
use Rattle.logs.proofs.best_of.Goals as goal

pub loop-e-init : goal.loop-e-init
loop-e-init c = let a = c.args in rw (c.first_cursor-cursor.ensures, remaining-start (power_of a.size) a.count (words_of a.img.now))

pub returns-in-Ok-None : goal.returns-in-Ok-None
unfolding best_in
returns-in-Ok-None c = sym (ap or_nothing (c.loop-e.invariant ∙ fold_done _ _ _ _ (pass _) _ (rw c.in-Ok-None.field-0-is at c.in-Ok-None.ensures)))

pub returns-in-Err : goal.returns-in-Err
unfolding best_in
returns-in-Err c = sym (ap or_nothing (c.loop-e.invariant ∙ fold-wrong _ _ _ _ (pass _) _ c.in-Err.ensures))
