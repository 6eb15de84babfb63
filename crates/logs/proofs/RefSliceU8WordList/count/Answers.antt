-- An image has as many words as its bytes fill.
-- Assumes nothing.
use mathlib.Core.Path.{sym}
use Rattle.words.specs.Image.{length-words_of}
use Rattle.logs.proofs.RefSliceU8WordList.count.Goals as goal

pub returns : goal.returns
returns c = sym (length-words_of c.args.self.now)
