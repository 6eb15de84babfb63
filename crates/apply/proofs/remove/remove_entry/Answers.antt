-- `apply::remove::remove_entry` meets its contract.
-- Assumes nothing.
use Rattle.std.proofs.Common.{refl}
use Rattle.apply.proofs.Shows.{entry-twins, entry-none, entry-copied, entry_gone, entry-less}
use Rattle.apply.proofs.remove.remove_entry.Goals as goal

pub returns-then-word-eq0 : goal.returns-then-word-eq0
returns-then-word-eq0 c =
    entry-none c.args.size _ _ _ _ _ _ _ _ _ _ c.slot_of-slot.ensures
    c.word_at-word.ensures c.unpack-info.ensures c.if-word-eq0.true

pub returns-then-info-ne0 : goal.returns-then-info-ne0
returns-then-info-ne0 c =
    entry-twins c.args.size _ _ _ _ _ _ _ _ _ _ c.slot_of-slot.ensures c.word_at-word.ensures
    c.unpack-info.ensures

pub returns-then-info-place : goal.returns-then-info-place
returns-then-info-place c =
    entry-less c.args.size _ _ _ _ _ _ _ _ _ _ c.slot_of-slot.ensures c.word_at-word.ensures
    c.unpack-info.ensures
    c.if-word-eq0.false c.if-info-ne0.false c.if-info-place.true _ _ c.with_less.ensures
    c.set_slot.ensures

pub returns-then-copied : goal.returns-then-copied
returns-then-copied c =
    entry-copied c.args.size _ _ _ _ _ _ _ _ _ _ c.slot_of-slot.ensures
    c.word_at-word.ensures
    c.unpack-info.ensures c.if-word-eq0.false c.if-info-ne0.false c.if-info-place.false c.if-copied.true _ _ _
    c.with_copy.ensures c.set_slot-then-copied.ensures refl

pub returns : goal.returns
returns c =
    entry_gone c.args.size _ _ _ _ _ _ _ _ _ _ c.slot_of-slot.ensures c.word_at-word.ensures
    c.unpack-info.ensures
    c.if-word-eq0.false c.if-info-ne0.false c.if-info-place.false c.if-copied.false _ _
    c.remove.ensures _ c.saturating_sub.ensures
