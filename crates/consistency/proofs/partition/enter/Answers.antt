-- `consistency::partition::enter` meets its contract, case by case. Assumes nothing.
use mathlib.Core.Path.{refl, sym, ◌∙◌}
use Rattle.volatile.proofs.Info.{noted-new}
use Rattle.consistency.proofs.Collects.{enter-other, enter-full, enter-new, enter-old}
use Rattle.consistency.proofs.partition.enter.Goals as goal

pub returns-then-not-holds : goal.returns-then-not-holds
returns-then-not-holds c = enter-other _ _ _ _ _ _ _ (sym c.holds.ensures ∙ c.if-not-holds.true)

pub returns-then-old-ne0 : goal.returns-then-old-ne0
returns-then-old-ne0 c =
    enter-old _ _ _ _ _ _ _ (sym c.holds.ensures ∙ c.if-not-holds.false) _ _ c.slot_of-slot.ensures
    c.word_at-old.ensures _ _ c.with_entry-info.ensures c.set_slot.ensures
    c.if-old-ne0.true

pub returns-then-capacity-keys : goal.returns-then-capacity-keys
returns-then-capacity-keys c = enter-full _ _ _ _ _ _ _ _ refl

pub returns : goal.returns
returns c =
    let zero = c.if-old-ne0.false in
    enter-new _ _ _ _ _ _ _ (sym c.holds.ensures ∙ c.if-not-holds.false) _ _ c.slot_of-slot.ensures
    c.word_at-old.ensures _ _ (noted-new _ _ _ zero) c.set_slot-2.ensures zero
    (rw (← c.capacity.ensures) c.if-capacity-keys.false)
