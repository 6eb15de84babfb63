-- `lookup::by_entry` meets its contract: a value in the log, one in a block, or none.
-- Assumes nothing.
use native.Mathlib.Omega.{arith}
use Rattle.spec.specs.Words.{words_of}
use Rattle.lookup.proofs.Entries.{by-log, by-block, by-none}
use Rattle.lookup.proofs.by_entry.Goals as goal

pub returns-then-form-eq-IN_LOG : goal.returns-then-form-eq-IN_LOG
returns-then-form-eq-IN_LOG c = let a = c.args in by-log (words_of a.image.now) a.version a.word c.if-form-eq-IN_LOG.true

pub returns-then-form-eq-IN_BLOCK : goal.returns-then-form-eq-IN_BLOCK
returns-then-form-eq-IN_BLOCK c =
    let at = c.word_offset in
    let block = c.if-form-eq-IN_BLOCK in
    let a = c.args in
    by-block (words_of a.image.now) a.version a.word at.result c.load-length.result block.true
    (omega arith) c.load-length.ensures

pub returns : goal.returns
returns c =
    let a = c.args in
    by-none (words_of a.image.now) a.version a.word c.if-form-eq-IN_LOG.false c.if-form-eq-IN_BLOCK.false
