-- `cleaning::store_kept` meets its contract.
-- Assumes nothing.
use native.Mathlib.Omega.{arith}
use Rattle.cleaning.proofs.BeginShows.{stored-none, stored_some}
use Rattle.cleaning.proofs.store_kept.Goals as goal

pub returns-then-words-eq0 : goal.returns-then-words-eq0
returns-then-words-eq0 c = let a = c.args in stored-none a.source a.kept.now _ c.if-words-eq0.true

pub store_kept-requires : goal.store_kept-requires
store_kept-requires c = let e = c.min-n.ensures in let p = c.requires in (omega arith, omega arith)

pub returns : goal.returns
returns c = let a = c.args in
    stored_some a.source a.kept.now _ _ _ c.if-words-eq0.false c.buffer_length.ensures.1 c.min-n.ensures c.store_kept.ensures
