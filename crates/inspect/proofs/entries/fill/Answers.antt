-- `inspect::entries::fill` meets its contract.
-- Assumes nothing.
use Rattle.std.proofs.Common.{refl, ◌∙◌, rules}
use Rattle.spec.specs.Words.{words_of}
use Rattle.logs.proofs.Walk.{remaining-start, fold-entry}
use Rattle.inspect.specs.Filling.{pass}
use Rattle.places.specs.Sizes.{power_of}
use Rattle.inspect.proofs.Filled.{leaves-end}
use Rattle.inspect.proofs.entries.fill.Goals as goal

pub loop-e-init : goal.loop-e-init
loop-e-init c = let a = c.args in (refl, rw (c.first_cursor-cursor.ensures, remaining-start (power_of a.size) a.chunks (words_of a.image.now)))

pub loop-e-smaller : goal.loop-e-smaller
loop-e-smaller c = (rw c.in-Ok-Some.field-0-is at c.in-Ok-Some.ensures).falls

pub loop-e-preserved : goal.loop-e-preserved
loop-e-preserved c =
    (search rules, rw c.take_entry-count.ensures (c.loop-e.invariant.1 ∙ fold-entry _ _ _ _ (pass _ _ _) _ _ (rw c.in-Ok-Some.field-0-is at c.in-Ok-Some.ensures)))

pub returns-in_default : goal.returns-in_default
returns-in_default c = rw c.loop-e.invariant.1 (leaves-end _ _ _ _ _ c.next_in_log.ensures (λ e q. let d = c.in_default in cc) (pass _ _ _) _)
