-- `consistency::block_right` meets its contract: the start is looked at, then the length and the fill.
-- Assumes nothing.
use mathlib.Core.Path.{sym, ◌∙◌, ap}
use native.Mathlib.Omega.{arith}
use Rattle.spec.specs.Words.{words_of}
use Rattle.spec.specs.Directory.{size_of}
use Rattle.words.specs.Image.{length-words_of}
use Rattle.consistency.proofs.Blocks.{start-size, shows-start, shows-block}
use Rattle.places.specs.Sizes.{power_of}
use Rattle.consistency.proofs.block_right.Goals as goal

pub length_right-requires : goal.length_right-requires
length_right-requires c =
    let a = c.args in
    (start-size (power_of a.size) a.count a.unit.0 c.size_of-units.result (sym c.starts.ensures ∙ c.if-not-starts.false), c.size_of-units.ensures.1)

pub returns : goal.returns
returns c =
    let a = c.args in
    let size = c.size_of-units in
    let len = c.load-length in
    let l = length-words_of a.image.now in
    shows-block (power_of a.size) (words_of a.image.now) a.count a.unit.0 size.result (omega arith) (size.ensures.0 ∙ ap (size_of (power_of a.size) (words_of a.image.now)) c.chunk.ensures)
    c.word_offset-at.result len.result c.load-last.result c.length_right.result c.word_offset-at.ensures len.ensures
    (rw c.words_for.ensures.0 at c.load-last.ensures) (sym c.starts.ensures ∙ c.if-not-starts.false) c.length_right.ensures

pub returns-then-not-starts : goal.returns-then-not-starts
returns-then-not-starts c =
    let a = c.args in
    let size = c.size_of-units in
    let l = length-words_of a.image.now in
    shows-start (power_of a.size) (words_of a.image.now) a.count a.unit.0 size.result (omega arith) (size.ensures.0 ∙ ap (size_of (power_of a.size) (words_of a.image.now)) c.chunk.ensures) (sym c.starts.ensures ∙ c.if-not-starts.true)
