-- `placing::blocks::find_block` meets its contract.
-- Assumes nothing.
use mathlib.Core.Path.{refl, sym, ◌∙◌, ap}
use Prim.Native.Nat.{min}
use native.Mathlib.Omega.{arith}
use Rattle.placing.proofs.Search.{left-start, left-next, left_here, left-close, left_end, block-ends, block-unit, chunk_start, in_image}
use Rattle.placing.proofs.Full.{Looks, looked}
use Rattle.placing.proofs.SlotFound.{found_nothing, found_here}
use Rattle.placing.proofs.blocks.find_block.Goals.{After-blocks_in-blocks}
use Rattle.placing.proofs.blocks.find_block.Goals as goal

-- the blocks of this chunk that are looked at
looks : (c : After-blocks_in-blocks) → Looks c.args.size c.args.image.now c.min-chunks.result c.args.units c.args.buffer.now c.args.words c.chunks.c c.blocks_in-blocks.result
looks c =
    let a = c.args in
    looked a.size a.image.now c.min-chunks.result a.units a.buffer.now a.words c.chunks.c _ _ _ c.blocks_in-blocks.result (omega arith) c.data_word-word.ensures c.blocks_of-most.ensures c.full_bits-full.ensures
    c.blocks_in-blocks.ensures

pub chunks-init : goal.chunks-init
chunks-init c = let a = c.args in (refl, left-start a.size a.image.now c.min-chunks.result a.units a.buffer.now a.words)

pub loop-j-init : goal.loop-j-init
loop-j-init c = (c.chunks.invariant.0, (looks (goal.at.loop-j-init c).After-blocks_in-blocks).begin c.chunks.invariant.1)

pub overflow_mul-u : goal.overflow_mul-u
overflow_mul-u c =
    let whole = c.units-whole in
    let l = chunk_start whole.result c.chunks.c whole.ensures.2 in
    omega arith

pub overflow_mul-u-in-loop-j : goal.overflow_mul-u-in-loop-j
overflow_mul-u-in-loop-j c =
    let q = looks (goal.at.overflow_mul-u-in-loop-j c).After-blocks_in-blocks in
    let whole = c.units-whole.ensures in
    let e = block-ends _ c.args.units c.loop-j.j c.blocks_in-blocks.result c.loop-j-test.true q.fits in
    omega arith

pub overflow_add-u : goal.overflow_add-u
overflow_add-u c =
    let q = looks (goal.at.overflow_add-u c).After-blocks_in-blocks in
    let whole = c.units-whole in
    let l = chunk_start whole.result c.chunks.c whole.ensures.2 in
    let e = block-ends _ c.args.units c.loop-j.j c.blocks_in-blocks.result c.loop-j-test.true q.fits in
    omega arith

pub loop-j-preserved : goal.loop-j-preserved
loop-j-preserved c =
    let a = c.args in
    let u = block-unit a.size _ a.units c.chunks.c c.loop-j.j c.units-whole.ensures.0 in (
      c.loop-j.invariant.0,
      left-next a.size a.image.now c.min-chunks.result a.units a.buffer.now a.words c.chunks.c
          c.blocks_in-blocks.result c.loop-j.j _ (omega arith) u
          (λ es items g. sym c.if-is_spare.false ∙ c.is_spare.ensures es items g) c.loop-j.invariant.1,
    )

pub chunks-preserved : goal.chunks-preserved
chunks-preserved c =
    let a = c.args in (
      c.loop-j.invariant.0,
      left-close a.size a.image.now c.min-chunks.result a.units a.buffer.now a.words c.chunks.c c.blocks_in-blocks.result
          c.loop-j.j (omega arith) c.loop-j.invariant.1,
    )

pub returns-after-chunks : goal.returns-after-chunks
returns-after-chunks c =
    let a = c.args in
    let n = c.min-chunks in
    rw c.chunks.invariant.0 (found_nothing a.size a.image.now n.result a.count a.units a.buffer.now a.words (n.ensures ∙ ap (min a.count) c.chunks_in.ensures.0)
    (left_end a.size a.image.now n.result a.units a.buffer.now a.words c.chunks.c (omega arith) c.chunks.invariant.1))

pub returns-then-is_spare : goal.returns-then-is_spare
returns-then-is_spare c =
    let n = c.min-chunks in
    let a = c.args in
    let few = n.ensures ∙ ap (min a.count) c.chunks_in.ensures.0 in
    let q = looks (goal.at.returns-then-is_spare c).After-blocks_in-blocks in
    let some = q.some' (omega arith) in
    let u = block-unit a.size _ a.units c.chunks.c c.loop-j.j c.units-whole.ensures.0 in
    found_here a.size a.image.now n.result a.count a.units a.buffer.now a.words _ few
    (left_here a.size a.image.now n.result a.units a.buffer.now a.words c.chunks.c c.blocks_in-blocks.result c.loop-j.j _ (omega arith) u
    (λ es items g. sym c.if-is_spare.true ∙ c.is_spare.ensures es items g) c.loop-j.invariant.1)
    (in_image a.size a.image.now n.result a.count a.units c.chunks.c c.loop-j.j c.blocks_in-blocks.result _ few (omega arith) (omega arith) (omega arith) q.fits u some.1 some.0)
