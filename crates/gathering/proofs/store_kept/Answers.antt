-- `gathering::store_kept` meets its contract.
-- Assumes nothing.
use Rattle.std.proofs.Common.{◌≡◌, refl, zero-add, arith}
use Rattle.buffer.specs.Areas.{buffer_words}
use Rattle.gathering.proofs.Words.{copied-start, copied_next}
use Rattle.gathering.proofs.store_kept.Goals as goal

pub loop-i-init : goal.loop-i-init
loop-i-init c = copied-start _ _ _ _

pub bounds-kept-i : goal.bounds-kept-i
bounds-kept-i c = let p = c.requires.1 in omega arith

pub loop-i-preserved : goal.loop-i-preserved
loop-i-preserved c = copied_next buffer_words _ _ _ _ _ _ _ _ c.buffer_length.ensures.1 (let p = c.requires.0 in omega arith) c.loop-i.invariant (rw zero-add refl) refl

pub returns : goal.returns
returns c = let e : c.loop-i.i ≡ c.args.n = omega arith in rw e at c.loop-i.invariant
