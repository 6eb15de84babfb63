-- `placing::blocks::large_full` meets its contract, size by size.
-- Assumes nothing.
use mathlib.Core.Path.{refl}
use Rattle.spec.specs.Places.{chunk_units}
use Rattle.spec.specs.declared.Size.TheVariants as S
use Rattle.placing.proofs.Full.{used-by, all-used}
use Rattle.placing.proofs.blocks.large_full.Goals as goal

pub returns-in-2 : goal.returns-in-2
unfolding chunk_units
returns-in-2 c = used-by S.Large _ 2 _ c.in-2.is refl

pub returns-in-3 : goal.returns-in-3
unfolding chunk_units
returns-in-3 c = used-by S.Large _ 3 _ c.in-3.is refl

pub returns-in-4 : goal.returns-in-4
unfolding chunk_units
returns-in-4 c = used-by S.Large _ 4 _ c.in-4.is refl

pub returns-in-5 : goal.returns-in-5
unfolding chunk_units
returns-in-5 c = used-by S.Large _ 5 _ c.in-5.is refl

pub returns-in-6 : goal.returns-in-6
unfolding chunk_units
returns-in-6 c = used-by S.Large _ 6 _ c.in-6.is refl

pub returns-in-7 : goal.returns-in-7
unfolding chunk_units
returns-in-7 c = used-by S.Large _ 7 _ c.in-7.is refl

pub returns-in-8 : goal.returns-in-8
unfolding chunk_units
returns-in-8 c = used-by S.Large _ 8 _ c.in-8.is refl

pub returns-in-9 : goal.returns-in-9
unfolding chunk_units
returns-in-9 c = used-by S.Large _ 9 _ c.in-9.is refl

pub returns-in-10 : goal.returns-in-10
unfolding chunk_units
returns-in-10 c = used-by S.Large _ 10 _ c.in-10.is refl

pub returns-in-11 : goal.returns-in-11
unfolding chunk_units
returns-in-11 c = used-by S.Large _ 11 _ c.in-11.is refl

pub returns-in-12 : goal.returns-in-12
unfolding chunk_units
returns-in-12 c = used-by S.Large _ 12 _ c.in-12.is refl

pub returns-in-13 : goal.returns-in-13
unfolding chunk_units
returns-in-13 c = used-by S.Large _ 13 _ c.in-13.is refl

pub returns-in-14 : goal.returns-in-14
unfolding chunk_units
returns-in-14 c = used-by S.Large _ 14 _ c.in-14.is refl

pub returns-in-15 : goal.returns-in-15
unfolding chunk_units
returns-in-15 c = used-by S.Large _ 15 _ c.in-15.is refl

pub returns-in-16 : goal.returns-in-16
unfolding chunk_units
returns-in-16 c = used-by S.Large _ 16 _ c.in-16.is refl

pub returns-in-17 : goal.returns-in-17
unfolding chunk_units
returns-in-17 c = used-by S.Large _ 17 _ c.in-17.is refl

pub returns-in-18 : goal.returns-in-18
unfolding chunk_units
returns-in-18 c = used-by S.Large _ 18 _ c.in-18.is refl

pub returns-in-19 : goal.returns-in-19
unfolding chunk_units
returns-in-19 c = used-by S.Large _ 19 _ c.in-19.is refl

pub returns-in-21 : goal.returns-in-21
unfolding chunk_units
returns-in-21 c = used-by S.Large _ 21 _ c.in-21.is refl

pub returns-in-23 : goal.returns-in-23
unfolding chunk_units
returns-in-23 c = used-by S.Large _ 23 _ c.in-23.is refl

pub returns-in-25 : goal.returns-in-25
unfolding chunk_units
returns-in-25 c = used-by S.Large _ 25 _ c.in-25.is refl

pub returns-in-28 : goal.returns-in-28
unfolding chunk_units
returns-in-28 c = used-by S.Large _ 28 _ c.in-28.is refl

pub returns-in-32 : goal.returns-in-32
unfolding chunk_units
returns-in-32 c = used-by S.Large _ 32 _ c.in-32.is refl

pub returns-in-36 : goal.returns-in-36
unfolding chunk_units
returns-in-36 c = used-by S.Large _ 36 _ c.in-36.is refl

pub returns-in-42 : goal.returns-in-42
unfolding chunk_units
returns-in-42 c = used-by S.Large _ 42 _ c.in-42.is refl

pub returns-in-51 : goal.returns-in-51
unfolding chunk_units
returns-in-51 c = used-by S.Large _ 51 _ c.in-51.is refl

pub returns-in-64 : goal.returns-in-64
unfolding chunk_units
returns-in-64 c = used-by S.Large _ 64 _ c.in-64.is refl

pub returns-in-85 : goal.returns-in-85
unfolding chunk_units
returns-in-85 c = used-by S.Large _ 85 _ c.in-85.is refl

pub returns-in-128 : goal.returns-in-128
unfolding chunk_units
returns-in-128 c = used-by S.Large _ 128 _ c.in-128.is refl

pub returns-in-256 : goal.returns-in-256
unfolding chunk_units
returns-in-256 c = used-by S.Large _ 256 _ c.in-256.is refl

pub returns-in_default : goal.returns-in_default
unfolding chunk_units
returns-in_default c = all-used S.Large _ _ refl
