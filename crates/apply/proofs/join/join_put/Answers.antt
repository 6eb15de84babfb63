-- `apply::join::join_put` meets its contract.
-- Assumes nothing.
use Rattle.apply.proofs.Puts.{put-new, put-over}
use Rattle.apply.proofs.join.join_put.Goals as goal

pub returns-then-was-gt0 : goal.returns-then-was-gt0
returns-then-was-gt0 c =
    put-over _ _ _ _ _ _ _ _ _ _ _ c.single_entry-own.ensures c.slot_of-slot.ensures c.word_at-old.ensures _
    _ c.unpack-was.ensures c.unpack-new.ensures c.if-was-gt0.true c.if-new-was.false _
    c.weigh_extent-gone.ensures _ _ _ c.take_off.ensures
    c.add.ensures _ c.with_entry-info.ensures c.set_slot.ensures

pub returns : goal.returns
returns c =
    put-new _ _ _ _ _ _ _ _ _ _ _ c.single_entry-own.ensures c.slot_of-slot.ensures c.word_at-old.ensures _ _
    c.if-old-ne0.false c.add-2.ensures c.set_slot-2.ensures
