-- `distance` meets its contract. Assumes nothing.
use borrow.Author.Tests.{lt-ltb, le-ltb}
use native.Mathlib.Omega.{arith}
use Rattle.index.specs.Distance.{dist}
use Rattle.index.proofs.distance.Goals as goal

pub returns-then-y-x : goal.returns-then-y-x
unfolding dist
returns-then-y-x c = rw (lt-ltb _ _ c.if-y-x.true) (omega arith)

pub returns-else-y-x : goal.returns-else-y-x
unfolding dist
returns-else-y-x c = rw (le-ltb _ _ c.if-y-x.false)
