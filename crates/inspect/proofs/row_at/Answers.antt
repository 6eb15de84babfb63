-- `inspect::row_at` meets its contract.
-- Assumes nothing.
use Rattle.std.proofs.Common.{length, inl, inr}
use Rattle.spec.specs.Words.{words_of}
use Rattle.inspect.proofs.Shows.{row_inside, row-outside}
use Rattle.inspect.proofs.row_at.Goals as goal
use Rattle.inspect.proofs.row_at.Goals.{else-chunk-ge1-via-then-chunk-ge1+else-chunk-count, else-chunk-ge1-via-else-chunk-ge1}

pub returns-then-chunk-count : goal.returns-then-chunk-count
returns-then-chunk-count c =
    let a = c.args in
    let e = c.chunks_in-count.ensures.0 in
    row_inside a.size (length a.image.now) (words_of a.image.now) a.table.now a.chunk _ _ c.if-chunk-ge1.true
    (rw e at c.if-chunk-count.true) c.role_at-role.ensures (rw e at c.row_for.ensures)

pub returns : goal.returns
returns c =
    let a = c.args in
    let e = c.chunks_in-count.ensures.0 in
    rw c.plain_row.ensures
    (row-outside a.size (length a.image.now) (words_of a.image.now) a.table.now a.chunk
    (elim c.else-chunk-ge1.branch [ else-chunk-ge1-via-then-chunk-ge1+else-chunk-count i ↦ inr (rw e at i.if-chunk-count.false) | else-chunk-ge1-via-else-chunk-ge1 i ↦ inl i.if-chunk-ge1.false ]))
