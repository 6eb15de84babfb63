-- `faults::top::join` meets its contract, case by case.
-- Assumes nothing.
use borrow.Author.Tests.{eq-eqb, ne_eqb}
use Rattle.words.specs.Image.{length-words_of}
use Rattle.faults.proofs.top.join.Goals as goal

pub returns-then-one-eq0 : goal.returns-then-one-eq0
returns-then-one-eq0 c = rw (eq-eqb _ 0 c.if-one-eq0.true)

pub returns-then-one-eq-SEVERAL : goal.returns-then-one-eq-SEVERAL
returns-then-one-eq-SEVERAL c =
    rw (ne_eqb _ 0 c.if-one-eq0.false, eq-eqb _ 1 c.if-one-eq-SEVERAL.true, c.least.ensures)

pub returns-then-load-key : goal.returns-then-load-key
returns-then-load-key c =
    rw (ne_eqb _ 0 c.if-one-eq0.false, ne_eqb _ 1 c.if-one-eq-SEVERAL.false, length-words_of c.args.image.now, ← c.min.ensures, ← c.load.ensures, eq-eqb _ _ c.if-load-key.true, c.min-then-load-key.ensures)

pub returns : goal.returns
returns c =
    rw (ne_eqb _ 0 c.if-one-eq0.false, ne_eqb _ 1 c.if-one-eq-SEVERAL.false, length-words_of c.args.image.now, ← c.min.ensures, ← c.load.ensures, ne_eqb _ _ c.if-load-key.false, c.least-3.ensures, c.least-2.ensures)
