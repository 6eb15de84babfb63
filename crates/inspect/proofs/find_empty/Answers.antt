-- `inspect::find_empty` meets its contract.
-- Assumes nothing.
use Rattle.std.proofs.Common.{refl}
use Rattle.inspect.proofs.Shows.{empty-refused, empty-open, chosen-found, none-found}
use Rattle.inspect.proofs.find_empty.Goals as goal

pub returns-in-Some : goal.returns-in-Some
returns-in-Some c =
    empty-open _ _ _ _ _ c.in-Ok.ensures _ _ _ c.size_by-size.result _ refl
    c.size_by-size.ensures c.chunks_in-count.ensures.0 c.in-Some.ensures (chosen-found _ _ (c.in-Some.ensures.inside _ refl))

pub returns-in-None : goal.returns-in-None
returns-in-None c =
    empty-open _ _ _ _ _ c.in-Ok.ensures _ _ _ c.size_by-size.result _ refl
    c.size_by-size.ensures c.chunks_in-count.ensures.0 c.in-None.ensures (none-found _)

pub returns-in-Err : goal.returns-in-Err
returns-in-Err c = empty-refused _ _ _ _ _ c.in-Err.ensures _ _ refl
