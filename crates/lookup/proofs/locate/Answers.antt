-- `lookup::locate` meets its contract.
-- Assumes nothing.
use Rattle.std.proofs.lemmas.Result.{err_from_is_err_and}
use Rattle.lookup.proofs.Looks.{locate-refused, locate-open}
use Rattle.lookup.proofs.locate.Goals as goal

pub returns-in_err-read_gate : goal.returns-in_err-read_gate
returns-in_err-read_gate c =
    let p = err_from_is_err_and c.from_residual.result c.from_residual.ensures.1 in
    rw (p.1, p.2) (locate-refused _ _ _ _ _ _ c.read_gate.ensures _ c.in_err-read_gate.was)

pub returns : goal.returns
returns c = locate-open _ _ _ _ _ _ c.read_gate.ensures _ c.in_ok-read_gate.was (rw c.size_by.ensures at c.value_of.ensures)
