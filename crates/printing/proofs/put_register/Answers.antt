-- `printing::put_register` meets its contract.
-- Assumes nothing.
use Rattle.std.proofs.Common.{rules}
use Rattle.printing.proofs.Prints.{register-lines}
use Rattle.printing.proofs.put_register.Goals as goal

pub returns-in-Ok : goal.returns-in-Ok
returns-in-Ok g c =
    register-lines _ _ _ _ _ _ _ c.list_keys.new.out _ c.in-Ok.count c.min.result _ _ (rw c.in-Ok.is at c.list_keys.ensures) (λ l. search rules) c.put_head.ensures c.put_keys.ensures
