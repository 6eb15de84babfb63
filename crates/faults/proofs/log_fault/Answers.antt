-- `faults::log_fault` meets its contract.
-- Assumes nothing.
use native.Mathlib.Omega.{arith}
use Rattle.spec.specs.Words.{words_of}
use Rattle.faults.proofs.Answers.{stops_at, stops_nowhere}
use Rattle.faults.proofs.log_fault.Goals as goal

pub returns-in-Some : goal.returns-in-Some
returns-in-Some c = stops_at c.args.size c.args.count (words_of c.args.image.now) _ c.in-Some.ensures

pub returns-in-None : goal.returns-in-None
returns-in-None c =
    let a = c.args in
    stops_nowhere a.size a.count (words_of a.image.now) (omega arith) _ _ c.in-None.ensures c.find_spots.ensures c.spot_fault.ensures
