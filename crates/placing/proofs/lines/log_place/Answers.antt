-- `placing::lines::log_place` meets its contract: a log chunk with space, else a free chunk, else nothing; and the next
-- hint.
-- Assumes nothing.
use native.Mathlib.Omega.{arith}
use borrow.Author.Tests.{leb-true}
use Rattle.placing.proofs.Hint.{shows-log, shows-free, shows-nowhere}
use Rattle.placing.proofs.lines.log_place.Goals as goal

pub returns-then-at-count : goal.returns-then-at-count
returns-then-at-count c =
    shows-log _ _ _ _ _ _ _ _ _ _ _ c.start_of-start.ensures c.min-room.ensures c.near_chunk-next.ensures c.wider_chunk-at.ensures _ _ (omega arith) c.place_at.ensures c.hint_of.ensures

pub returns-in-Some : goal.returns-in-Some
returns-in-Some c =
    shows-free _ _ _ _ _ _ _ _ _ _ _ c.start_of-start.ensures c.min-room.ensures c.near_chunk-next.ensures c.wider_chunk-at.ensures _ c.free_start-low.ensures _ c.free_from.ensures
    _ _ _ _ _ (λ e. leb-true _ _ e) (omega arith) c.in-Some.is c.place_at-in-Some.ensures c.min.ensures c.hint_of-in-Some.ensures

pub returns-in-None : goal.returns-in-None
returns-in-None c =
    shows-nowhere _ _ _ _ _ _ _ _ _ _ _ c.start_of-start.ensures c.min-room.ensures c.near_chunk-next.ensures c.wider_chunk-at.ensures _ c.free_start-low.ensures _ c.free_from.ensures
    _ (omega arith) c.in-None.is c.hint_of-in-None.ensures
