-- `placing::blocks::slot_for` meets its contract.
-- Assumes nothing.
use Rattle.placing.proofs.SlotFound.{slot-data, slot-free, slot-nowhere}
use Rattle.placing.proofs.blocks.slot_for.Goals as goal

pub returns-in-Some : goal.returns-in-Some
returns-in-Some c =
    let a = c.args in
    let f = c.find_block in
    slot-data a.size a.image.now a.count a.units a.buffer.now a.words f.result f.ensures _
    c.in-Some.is

pub returns : goal.returns
returns c =
    let a = c.args in
    let f = c.find_block in
    let g = c.free_chunk in
    slot-free a.size a.image.now a.count a.units a.buffer.now a.words f.result f.ensures g.result
    c.in_default.is g.ensures _ c.in_ok-chunk.was

pub returns-in_err-chunk : goal.returns-in_err-chunk
returns-in_err-chunk c =
    let a = c.args in
    let f = c.find_block in
    let g = c.free_chunk in
    rw c.from_residual.ensures
    (slot-nowhere a.size a.image.now a.count a.units a.buffer.now a.words f.result f.ensures g.result
    c.in_default.is g.ensures c.in_err-chunk.was)
