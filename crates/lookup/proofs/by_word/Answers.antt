-- `lookup::by_word` meets its contract.
-- Assumes nothing.
use Rattle.spec.specs.Words.{words_of}
use native.Mathlib.Omega.{arith}
use Rattle.packing.specs.Packed.{extent-few}
use Rattle.lookup.proofs.Entries.{by-empty, by-extent, by_place}
use Rattle.lookup.proofs.by_word.Goals as goal

pub returns-then-held-eq0 : goal.returns-then-held-eq0
returns-then-held-eq0 c = by-empty c.args.size (words_of c.args.image.now) c.args.held c.if-held-eq0.true

pub overflow_add-result : goal.overflow_add-result
overflow_add-result c =
    let e = extent-few c.args.size c.args.held in
    rw c.unpack-info.ensures (omega arith)

pub returns-then-extent-gt0 : goal.returns-then-extent-gt0
returns-then-extent-gt0 c = by-extent c.args.size (words_of c.args.image.now) c.args.held c.unpack-info.result c.if-held-eq0.false c.unpack-info.ensures c.if-extent-gt0.true

pub returns : goal.returns
returns c =
    by_place c.args.size (words_of c.args.image.now) c.args.held c.unpack-info.result
    c.if-held-eq0.false c.unpack-info.ensures c.by_entry.result c.load.result
    c.if-extent-gt0.false c.load.ensures c.by_entry.ensures
