-- `choosing::is_better` meets its contract.
-- Assumes nothing.
use borrow.Author.Tests.{eq-eqb, ne_eqb, lt-ltb, le-ltb}
use Rattle.choosing.proofs.Laws.{compared-by}
use Rattle.choosing.proofs.is_better.Goals as goal

pub returns-then-c-d : goal.returns-then-c-d
returns-then-c-d c = compared-by _ _ _ (rw (lt-ltb c.args.c.words c.args.d.words c.if-c-d.true))

pub returns-then-c-d-2 : goal.returns-then-c-d-2
returns-then-c-d-2 c = compared-by _ _ _ (rw (le-ltb c.args.c.words c.args.d.words c.if-c-d.false, eq-eqb c.args.c.words c.args.d.words c.if-c-d-2.true))

pub returns-else-c-d-2 : goal.returns-else-c-d-2
returns-else-c-d-2 c = compared-by _ _ _ (rw (le-ltb c.args.c.words c.args.d.words c.if-c-d.false, ne_eqb c.args.c.words c.args.d.words c.if-c-d-2.false))
