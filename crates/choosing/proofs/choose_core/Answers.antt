-- `choosing::choose_core` meets its contract.
-- Assumes nothing.
use Rattle.choosing.proofs.Answers.{gate-refuses, answers}
use Rattle.choosing.proofs.choose_core.Goals as goal

pub returns-in-Some : goal.returns-in-Some
returns-in-Some c =
    answers _ _ _ _ _ _ c.gate.ensures c.in_default.is _ c.size_by-size.ensures _ c.chunks_in-count.ensures.0 _ c.choose.ensures _ c.in-Some.is

pub returns-in-None : goal.returns-in-None
returns-in-None c =
    answers _ _ _ _ _ _ c.gate.ensures c.in_default.is _ c.size_by-size.ensures _ c.chunks_in-count.ensures.0 _ c.choose.ensures _ c.in-None.is

pub returns-in-Err : goal.returns-in-Err
returns-in-Err c = gate-refuses _ _ _ _ _ _ c.gate.ensures _ c.in-Err.is
