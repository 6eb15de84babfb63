-- `lookup::value_of` meets its contract.
-- Assumes nothing.
use native.Mathlib.Omega.{arith}
use Rattle.packing.specs.Packed.{unpack-few, extent-few}
use Rattle.lookup.proofs.Looks.{looking-none, looking-part, looking-extent}
use Rattle.lookup.proofs.value_of.Goals as goal

pub overflow_add-extent : goal.overflow_add-extent
overflow_add-extent c =
    let e = extent-few c.args.size c.get-held.result in
    rw c.unpack-info.ensures (omega arith)

pub log_part-requires : goal.log_part-requires
log_part-requires c =
    let size = c.args.size in
    let few = unpack-few size c.get-held.result in
    let e = extent-few size c.get-held.result in
    rw c.unpack-info.ensures (few.0, omega arith)

pub returns-then-extent-gt0 : goal.returns-then-extent-gt0
returns-then-extent-gt0 c =
    looking-extent c.args.size _ _ _ _ c.get-held.ensures _ c.unpack-info.ensures _ c.if-extent-gt0.true c.log_part.ensures

pub returns-then-place-eq0 : goal.returns-then-place-eq0
returns-then-place-eq0 c =
    looking-none c.args.size _ _ _ _ c.get-held.ensures _ c.unpack-info.ensures c.if-place-eq0.true

pub part_at-requires : goal.part_at-requires
part_at-requires c =
    let few = unpack-few c.args.size c.get-held.result in
    rw c.unpack-info.ensures few.0

pub returns : goal.returns
returns c =
    looking-part c.args.size _ _ _ _ c.get-held.ensures _ c.unpack-info.ensures _ c.if-place-eq0.false c.part_at.ensures
