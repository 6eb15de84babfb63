-- `opening::fill::enter_known` meets its contract.
-- Assumes nothing.
use Rattle.opening.proofs.Pass.{again-is}
use Rattle.opening.proofs.fill.enter_known.Goals as goal

pub returns : goal.returns
returns c =
    again-is _ _ _ _ _ _ _ _ _ _ _ _ _ _ c.with_entry-info.ensures c.set_slot.ensures
    c.is_single.ensures c.renew.ensures
