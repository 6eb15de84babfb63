-- The header's words are made by the codec; behind them stand zeros.
-- Assumes nothing.
use native.Mathlib.Omega.{arith}
use Rattle.actions.proofs.Formatting.{word-behind, word-shown}
use Rattle.actions.proofs.format.register_word.Goals as goal

pub returns-then-i-lt8 : goal.returns-then-i-lt8
returns-then-i-lt8 c =
    let a = c.args in
    let s = c.size_by-size in
    word-shown a.setup s.result a.i _ _ _ _ s.ensures c.chunks_in-count.ensures.0 c.given-station.ensures c.given-centre.ensures
    c.header_word.ensures

pub returns-else-i-lt8 : goal.returns-else-i-lt8
returns-else-i-lt8 c = word-behind c.args.setup c.args.i (omega arith)
