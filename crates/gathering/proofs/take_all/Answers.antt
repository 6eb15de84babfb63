-- `gathering::take_all` meets its contract.
-- Assumes nothing.
use Rattle.std.proofs.Common.{refl, inl, arith}
use Rattle.words.specs.Image.{length-words_of}
use Rattle.forward.proofs.Walks.{ended}
use Rattle.gathering.proofs.Passes.{collects-start, collects-end, collects-next}
use Rattle.gathering.proofs.take_all.Goals as goal
use Rattle.gathering.proofs.take_all.Goals.{in_default-via-in-Ok+in_default, in_default-via-in_default}

pub loop-e-init : goal.loop-e-init
loop-e-init c = collects-start _ _ _ _ _ _ c.requires.1

pub take_puts-run-requires : goal.take_puts-run-requires
take_puts-run-requires c = (c.requires.0, c.loop-e.invariant.long)

pub returns-in_default : goal.returns-in_default
returns-in_default c =
    elim c.in_default.branch [
      | in_default-via-in-Ok+in_default w ↦ collects-end _ _ _ _ _ _ _ _ (c.take_puts-run.ensures.keeps _ _ c.loop-e.invariant) (ended _ _ _ _ c.next_in_log.ensures (λ e q. cc))
      | in_default-via-in_default w ↦ collects-end _ _ _ _ _ _ _ _ (c.take_puts-run.ensures.keeps _ _ c.loop-e.invariant) (ended _ _ _ _ c.next_in_log.ensures (λ e q. cc))
    ]

pub overflow_add-at : goal.overflow_add-at
overflow_add-at c =
    let h = (rw c.in-Ok-Some.field-0-is at c.in-Ok-Some.ensures).stands.fits in
    let l = length-words_of c.args.copy.now in
    let b = c.well_formed in
    let p = c.requires in
    omega arith

pub loop-e-preserved : goal.loop-e-preserved
loop-e-preserved c =
    collects-next _ _ _ _ _ _ _ _ (c.take_puts-run.ensures.keeps _ _ c.loop-e.invariant) _ (rw c.in-Ok-Some.field-0-is at c.in-Ok-Some.ensures) _ (inl c.if-e-ne1.false) _ refl _ c.is_kept-is.ensures _ _ c.take-tally.ensures

pub returns-then-e-ne1 : goal.returns-then-e-ne1
returns-then-e-ne1 c = c.take_rest.ensures.walks (c.take_puts-run.ensures.keeps _ _ c.loop-e.invariant)
