-- `consistency::agrees` meets its contract: the words of the two entries are compared.
-- Assumes nothing.
use mathlib.Core.Path.{sym}
use Rattle.spec.specs.Words.{words_of}
use Rattle.words.specs.Image.{length-words_of}
use Rattle.consistency.proofs.Same.{shows-agree}
use Rattle.consistency.proofs.agrees.Goals as goal

pub returns : goal.returns
returns c =
    let a = c.args in
    let w = c.words_for-words in
    shows-agree (words_of a.image.now) a.e a.place c.min.result c.min-2.result w.result _ c.same_words.result (sym (length-words_of a.image.now))
    c.min.ensures c.min-2.ensures w.ensures.0 c.same_words.ensures
