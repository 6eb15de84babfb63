-- `placing::blocks::small_full` meets its contract, size by size.
-- Assumes nothing.
use mathlib.Core.Path.{refl}
use Rattle.spec.specs.Places.{chunk_units}
use Rattle.spec.specs.declared.Size.TheVariants as S
use Rattle.placing.proofs.Full.{used-by, all-used}
use Rattle.placing.proofs.blocks.small_full.Goals as goal

pub returns-in-2 : goal.returns-in-2
unfolding chunk_units
returns-in-2 c = used-by S.Small _ 2 _ c.in-2.is refl

pub returns-in-3 : goal.returns-in-3
unfolding chunk_units
returns-in-3 c = used-by S.Small _ 3 _ c.in-3.is refl

pub returns-in-4 : goal.returns-in-4
unfolding chunk_units
returns-in-4 c = used-by S.Small _ 4 _ c.in-4.is refl

pub returns-in-5 : goal.returns-in-5
unfolding chunk_units
returns-in-5 c = used-by S.Small _ 5 _ c.in-5.is refl

pub returns-in-8 : goal.returns-in-8
unfolding chunk_units
returns-in-8 c = used-by S.Small _ 8 _ c.in-8.is refl

pub returns-in-16 : goal.returns-in-16
unfolding chunk_units
returns-in-16 c = used-by S.Small _ 16 _ c.in-16.is refl

pub returns-in_default : goal.returns-in_default
unfolding chunk_units
returns-in_default c = all-used S.Small _ _ refl
