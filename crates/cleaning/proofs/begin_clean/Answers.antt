-- `cleaning::begin_clean` meets its contract: the sizes of a chunk's words are given as numbers.
-- Assumes nothing.
use mathlib.Core.Path.{refl, sym, ◌∙◌}
use Rattle.spec.specs.Places.{chunk_words}
use Rattle.cleaning.proofs.begin_clean.Goals as goal

pub begin_in-requires : goal.begin_in-requires
unfolding chunk_words
begin_in-requires c = let e = sym c.size_by.ensures ∙ c.in-Small.is in rw e refl

pub begin_in-requires-in-Large : goal.begin_in-requires-in-Large
unfolding chunk_words
begin_in-requires-in-Large c = let e = sym c.size_by.ensures ∙ c.in-Large.is in rw e refl
