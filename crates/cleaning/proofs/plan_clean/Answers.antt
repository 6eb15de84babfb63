-- `cleaning::plan_clean` meets its contract.
-- Assumes nothing.
use mathlib.Core.Path.{sym, ◌∙◌}
use mathlib.Core.Logic.{⊎_elim}
use Rattle.cleaning.proofs.PlanShows.{staged, chunk-zero, past-count, chunk-free, chunk-data, chunk-log}
use Rattle.cleaning.proofs.plan_clean.Goals as goal

pub returns-then-chunk-eq0 : goal.returns-then-chunk-eq0
returns-then-chunk-eq0 c =
    let a = c.args in
    let z = c.if-control-ne0.false in
    ⊎_elim (chunk-zero a.control a.setup a.buffer.now a.image.now a.table.now _ a.chunk z)
    (λ q. past-count a.control a.setup a.buffer.now a.image.now a.table.now _ a.chunk z _ c.size_by-size.ensures _ c.chunks_in-count.ensures.0 q.1)
    c.then-chunk-eq0.either

pub returns-then-is_free : goal.returns-then-is_free
returns-then-is_free c =
    chunk-free c.args.control c.args.setup c.args.buffer.now
    c.args.image.now c.args.table.now _ c.args.chunk c.if-control-ne0.false _
    c.size_by-size.ensures _ c.chunks_in-count.ensures.0
    (sym c.if-is_free.true ∙ c.is_free.ensures)

pub returns-then-lines_of-eq0 : goal.returns-then-lines_of-eq0
returns-then-lines_of-eq0 c =
    chunk-data c.args.control c.args.setup c.args.buffer.now
    c.args.image.now c.args.table.now _ c.args.chunk c.if-control-ne0.false _
    c.size_by-size.ensures _ c.chunks_in-count.ensures.0 c.if-chunk-eq0.false c.if-count-chunk.false
    (sym c.if-is_free.false ∙ c.is_free.ensures) c.lines_of.result
    c.lines_of.ensures.0 c.if-lines_of-eq0.true _ c.plan_data.ensures

pub plan_log-requires : goal.plan_log-requires
plan_log-requires c =
    let e = c.size_by-size.ensures in rw e c.requires

pub returns : goal.returns
returns c =
    chunk-log c.args.control c.args.setup c.args.buffer.now
    c.args.image.now c.args.table.now _ c.args.chunk c.if-control-ne0.false _
    c.size_by-size.ensures _ c.chunks_in-count.ensures.0 c.if-chunk-eq0.false c.if-count-chunk.false
    (sym c.if-is_free.false ∙ c.is_free.ensures) c.lines_of.result
    c.lines_of.ensures.0 c.if-lines_of-eq0.false _ c.plan_log.ensures

pub returns-then-control-ne0 : goal.returns-then-control-ne0
returns-then-control-ne0 c =
    staged c.args.control c.args.setup c.args.buffer.now c.args.image.now
    c.args.table.now _ c.args.chunk c.if-control-ne0.true
