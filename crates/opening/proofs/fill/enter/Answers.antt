-- `opening::fill::enter` meets its contract.
-- Assumes nothing.
use mathlib.Core.Path.{◌≡◌, refl}
use mathlib.Core.Bool.{true, false}
use Rattle.std.proofs.lemmas.Bool.{not-true, not-false}
use Rattle.volatile.proofs.Info.{noted-new}
use Rattle.spec.specs.Words.{words_of}
use Rattle.volatile.proofs.Laws.{alone-self}
use Rattle.opening.proofs.Pass.{enter-new, enter-old, enter-full, enter-over, entered-renewed, entered-over}
use Rattle.opening.proofs.fill.enter.Goals as goal

pub returns-then-not-held : goal.returns-then-not-held
returns-then-not-held c =
    let so : c.args.held.fits ≡ false = not-true _ c.if-not-held.true in
    rw so
    (entered-over c.args.size (words_of c.args.image.now) _ _ _ _ _ _ _ _ _ _ _ _
    (alone-self _ c.buffer_length.ensures.1) (enter-over c.args.size _ _ _ _ _ _ refl))

pub returns-then-old-ne0 : goal.returns-then-old-ne0
returns-then-old-ne0 c =
    let so : c.args.held.fits ≡ true = not-false _ c.if-not-held.false in
    let t = c.enter_known-single.ensures in
    rw so
    (entered-renewed c.args.size (words_of c.args.image.now) _ _ _ _ _ _ _ _ _ _ _ _ _ _ c.slot_of-slot.ensures
    c.word_at-old.ensures refl t.renewed
    (enter-old c.args.size _ _ _ _ _ _ _ _ c.slot_of-slot.ensures c.word_at-old.ensures refl _ _ refl
    t.put _ t.low c.if-old-ne0.true))

pub returns-then-capacity-held : goal.returns-then-capacity-held
returns-then-capacity-held c =
    let so : c.args.held.fits ≡ true = not-false _ c.if-not-held.false in
    rw so
    (entered-over c.args.size (words_of c.args.image.now) _ _ _ _ _ _ _ _ _ _ _ _
    c.renew.ensures.kept
    (enter-full c.args.size _ _ _ _ _ _ _ _ c.slot_of-slot.ensures c.word_at-old.ensures refl
    c.if-old-ne0.false (rw (← c.capacity.ensures) c.if-capacity-held.true)))

pub returns : goal.returns
returns c =
    let so : c.args.held.fits ≡ true = not-false _ c.if-not-held.false in
    let zero = c.if-old-ne0.false in
    rw so
    (entered-renewed c.args.size (words_of c.args.image.now) _ _ _ _ _ _ _ _ _ _ _ _ _ _ c.slot_of-slot.ensures
    c.word_at-old.ensures refl c.renew.ensures
    (enter-new c.args.size _ _ _ _ _ _ _ _ c.slot_of-slot.ensures c.word_at-old.ensures refl _ _
    (noted-new c.args.size _ _ zero) c.set_slot.ensures _ c.is_single.ensures zero
    (rw (← c.capacity.ensures) c.if-capacity-held.false)))
