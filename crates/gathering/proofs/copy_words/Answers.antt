-- `gathering::copy_words` meets its contract.
-- Assumes nothing.
use Rattle.std.proofs.Common.{◌≡◌, refl, arith}
use Rattle.gathering.proofs.Words.{copied-start, copied_next}
use Rattle.gathering.proofs.copy_words.Goals as goal

pub loop-i-init : goal.loop-i-init
loop-i-init c = copied-start _ _ _ _

pub bounds-kept-to : goal.bounds-kept-to
bounds-kept-to c = let l = c.loop-i.invariant.long in let p = c.requires.0 in omega arith

pub loop-i-preserved : goal.loop-i-preserved
loop-i-preserved c = copied_next _ _ _ _ _ _ _ _ _ refl (let p = c.requires.0 in omega arith) c.loop-i.invariant c.load.ensures refl

pub shape_of-kept : goal.shape_of-kept
shape_of-kept c = c.loop-i.invariant.long

pub returns : goal.returns
returns c = let e : c.loop-i.i ≡ c.args.n = omega arith in rw e at c.loop-i.invariant
