-- `apply::join::join_one` meets its contract.
-- Assumes nothing.
use Rattle.std.proofs.Common.{refl}
use Rattle.volatile.proofs.Info.{noted-new}
use Rattle.apply.proofs.Growing.{joined-new, joined-full, joined-old}
use Rattle.apply.proofs.join.join_one.Goals as goal

pub returns-then-keys-capacity : goal.returns-then-keys-capacity
returns-then-keys-capacity c =
    let zero = c.if-old-eq0.true in
    joined-new c.args.size _ _ _ _ _ _ _ _ _ _ _ _ _ c.slot_of-slot.ensures
    c.word_at-old.ensures (noted-new c.args.size _ _ zero)
    c.renew.ensures refl c.set_slot.ensures zero

pub returns-then-old-eq0 : goal.returns-then-old-eq0
returns-then-old-eq0 c =
    joined-full c.args.size _ _ _ _ _ _ _ _ _ _ _ _ _ c.slot_of-slot.ensures
    c.word_at-old.ensures refl
    c.renew.ensures refl refl c.if-old-eq0.true
    (rw (← c.capacity.ensures) c.if-keys-capacity.false)

pub returns : goal.returns
returns c =
    joined-old c.args.size _ _ _ _ _ _ _ _ _ _ _ _ _ c.slot_of-slot.ensures
    c.word_at-old.ensures
    c.with_entry.ensures c.renew.ensures c.set_slot-2.ensures _
    c.unpack.ensures
    c.release_tops.ensures c.if-old-eq0.false
