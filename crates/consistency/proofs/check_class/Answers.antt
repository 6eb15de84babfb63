-- `consistency::check_class` meets its contract: with the marks of the table, or with none.
-- Assumes nothing.
use mathlib.Core.Path.{refl}
use Rattle.consistency.proofs.Sweeps.{class-marked, class-unmarked}
use Rattle.consistency.proofs.check_class.Goals as goal

pub returns-then-not-single : goal.returns-then-not-single
returns-then-not-single c =
    rw c.in-Some.is (class-marked c.args.size _ _ _ _ _ _ _ _ _ _ _ refl _ c.mark_twins.ensures (rw c.in-Some.is at c.sweep.ensures))

pub returns : goal.returns
returns c = class-unmarked _ _ _ _ _ _ _ _ _ _ _ _ _ refl c.sweep-2.ensures
