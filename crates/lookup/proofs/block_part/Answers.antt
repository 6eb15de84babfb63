-- `lookup::block_part` meets its contract.
-- Assumes nothing.
use native.Mathlib.Omega.{arith}
use lib.ListN.{length}
use Rattle.spec.specs.Words.{words_of}
use Rattle.lookup.proofs.Looks.{block-any, block-yes, block_no}
use Rattle.lookup.proofs.block_part.Goals as goal

pub returns-then-length-bytes : goal.returns-then-length-bytes
returns-then-length-bytes c = let a = c.args in block-yes a.version (length a.image.now) (words_of a.image.now) a.unit.0 c.byte_offset-start.result c.word_offset-word.result (omega arith) c.byte_offset-start.ensures c.word_offset-word.ensures _ (omega arith) c.load_leading-length.ensures (omega arith)

pub returns-then-start-bytes : goal.returns-then-start-bytes
returns-then-start-bytes c = let a = c.args in block_no a.version (length a.image.now) (words_of a.image.now) a.unit.0 c.byte_offset-start.result c.word_offset-word.result (omega arith) c.byte_offset-start.ensures c.word_offset-word.ensures _ (omega arith) c.load_leading-length.ensures (omega arith)

pub returns : goal.returns
returns c = let a = c.args in block-any a.version (length a.image.now) (words_of a.image.now) a.unit.0 c.byte_offset-start.result c.word_offset-word.result (omega arith) c.byte_offset-start.ensures c.word_offset-word.ensures _ _ c.load.ensures c.within.ensures
