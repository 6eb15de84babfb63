-- `words::save` meets its contract: inside the image it stores the word, past the end it does nothing.
-- Assumes nothing.
use native.Mathlib.Omega.{arith}
use Rattle.words.specs.Image.{saved-inside, saved-past}
use Rattle.words.proofs.save.Goals as goal

pub returns-then-w-img : goal.returns-then-w-img
returns-then-w-img c = saved-inside _ _ _ _ (omega arith) (omega arith) c.store_word.ensures

pub returns-else-w-img : goal.returns-else-w-img
returns-else-w-img c = saved-past _ _ _ (omega arith)
