-- `directory::directory_word` meets its contract: a directory word past the image reads 0.
-- Assumes nothing.
use Rattle.std.proofs.Common.{◌+◌, sym, arith}
use Rattle.words.specs.Image.{get_or-words_of-past}
use Rattle.directory.proofs.directory_word.Goals as goal

pub returns-else-c-lt9223372036854775808 : goal.returns-else-c-lt9223372036854775808
returns-else-c-lt9223372036854775808 c = let a = c.args in sym (get_or-words_of-past a.image.now (8 + a.c) (omega arith))
