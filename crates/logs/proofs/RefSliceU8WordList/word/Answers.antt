-- A word of an image, read where the image has it.
-- Assumes nothing.
use mathlib.Core.Path.{sym, ◌∙◌}
use native.Mathlib.Omega.{arith}
use Rattle.words.specs.Image.{length-words_of, get_or-words_of}
use Rattle.logs.proofs.RefSliceU8WordList.word.Goals as goal

pub read_word-requires : goal.read_word-requires
read_word-requires c = let n = length-words_of c.args.self.now in omega arith

pub returns : goal.returns
returns c = let n = length-words_of c.args.self.now in c.read_word.ensures ∙ sym (get_or-words_of _ _ (omega arith))
