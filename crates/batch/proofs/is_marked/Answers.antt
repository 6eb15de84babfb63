-- `batch::is_marked` meets its contract.
-- Assumes nothing.
use mathlib.Core.Path.{refl}
use Rattle.session.specs.Filter.{is_marked}
use Rattle.batch.proofs.is_marked.Goals as goal

pub returns : goal.returns
unfolding is_marked
returns c = rw c.filter_bit.ensures.0 refl
