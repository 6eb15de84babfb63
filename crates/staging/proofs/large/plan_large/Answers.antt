-- `staging::large::plan_large` meets its contract.
-- Assumes nothing.
use mathlib.Core.Path.{◌∙◌, ap}
use Rattle.std.specs.Prelude.{Some}
use Rattle.placing.specs.declared.blocks.Slot.{Slot}
use Rattle.staging.proofs.Begun.{shows-data, shows-free, shows-nowhere}
use Rattle.staging.proofs.large.plan_large.Goals as goal

pub returns-in-Data : goal.returns-in-Data
returns-in-Data c =
    let by = c.size_by-size in
    let a = c.args in
    shows-data by.result a.image.now a.buffer.now a.setup a.words a.bytes _ _ _ by.ensures c.chunks_in-chunks.ensures.0 c.block_size-units.ensures c.slot_for.ensures _ _ (c.in_ok-unit.was ∙ ap (λ (x : Slot). Some x) c.in-Data.is) c.count_for.ensures

pub returns-in-Free : goal.returns-in-Free
returns-in-Free c =
    let by = c.size_by-size in
    let a = c.args in
    shows-free by.result a.image.now a.buffer.now a.setup a.words a.bytes _ _ _ by.ensures c.chunks_in-chunks.ensures.0 c.block_size-units.ensures c.slot_for.ensures _ _ _ _ (c.in_ok-unit.was ∙ ap (λ (x : Slot). Some x) c.in-Free.is) c.of.ensures c.directory_word.ensures c.count_for-in-Free.ensures

pub returns-in_err-unit : goal.returns-in_err-unit
returns-in_err-unit c =
    let by = c.size_by-size in
    let a = c.args in
    rw c.from_residual.ensures
    (shows-nowhere by.result a.image.now a.buffer.now a.setup a.words a.bytes _ _ _ by.ensures c.chunks_in-chunks.ensures.0 c.block_size-units.ensures c.slot_for.ensures c.in_err-unit.was)
