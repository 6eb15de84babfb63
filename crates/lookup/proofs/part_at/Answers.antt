-- `lookup::part_at` meets its contract.
-- Assumes nothing.
use lib.ListN.{length}
use Rattle.spec.specs.Words.{words_of}
use Rattle.lookup.proofs.Looks.{part_log, part-block, part_none}
use Rattle.lookup.proofs.part_at.Goals as goal

pub returns-then-kind-eq-IN_BLOCK : goal.returns-then-kind-eq-IN_BLOCK
returns-then-kind-eq-IN_BLOCK c =
    let a = c.args in
    let w = c.first_word-word in
    part-block a.version (length a.image.now) (words_of a.image.now) a.place w.result w.ensures _ c.if-kind-eq-IN_BLOCK.true c.block_part.ensures

pub returns-then-kind-eq-IN_LOG : goal.returns-then-kind-eq-IN_LOG
returns-then-kind-eq-IN_LOG c =
    let a = c.args in
    let w = c.first_word-word in
    part_log a.version (length a.image.now) (words_of a.image.now) a.place w.result w.ensures _ c.if-kind-eq-IN_LOG.true c.log_part.ensures

pub returns : goal.returns
returns c =
    let a = c.args in
    let w = c.first_word-word in
    part_none a.version (length a.image.now) (words_of a.image.now) a.place w.result w.ensures c.if-kind-eq-IN_LOG.false c.if-kind-eq-IN_BLOCK.false
