-- `gathering::take_counted` meets its contract.
-- Assumes nothing.
use Rattle.std.proofs.Common.{refl, arith}
use Rattle.words.specs.Image.{length-words_of}
use Rattle.forward.proofs.Walks.{ended}
use Rattle.gathering.proofs.Kept.{tells-start}
use Rattle.gathering.proofs.Passes.{rest-start, rest-end, rest-next}
use Rattle.gathering.proofs.take_counted.Goals as goal

pub loop-e-init : goal.loop-e-init
loop-e-init c = (rest-start _ _ _ _ _ _ _ _, tells-start c.args.size _ _ _ _ c.requires.2)

pub returns-in_default : goal.returns-in_default
returns-in_default c = rest-end _ _ _ _ _ _ _ _ _ _ _ c.loop-e.invariant.0 (ended _ _ _ _ c.next_in_log.ensures (λ e q. cc))

pub returns-in_default-2 : goal.returns-in_default-2
returns-in_default-2 c = rest-end _ _ _ _ _ _ _ _ _ _ _ c.loop-e.invariant.0 (ended _ _ _ _ c.next_in_log.ensures (λ e q. cc))

pub overflow_add-at : goal.overflow_add-at
overflow_add-at c =
    let h = (rw c.in-Ok-Some.field-0-is at c.in-Ok-Some.ensures).stands.fits in
    let l = length-words_of c.args.copy.now in
    let b = c.well_formed in
    let p = c.requires in
    omega arith

pub take-tally-requires : goal.take-tally-requires
take-tally-requires c = c.loop-e.invariant.0.long c.requires.1

pub loop-e-smaller : goal.loop-e-smaller
loop-e-smaller c = (rw c.in-Ok-Some.field-0-is at c.in-Ok-Some.ensures).falls

pub loop-e-preserved : goal.loop-e-preserved
loop-e-preserved c =
    let o = c.count_once-counted.ensures in
    let w = c.loop-e.invariant in (
      rest-next _ _ _ _ _ _ _ _ _ _ _ w.0 _ (rw c.in-Ok-Some.field-0-is at c.in-Ok-Some.ensures) _ (o.decides w.1) _ refl _ c.is_kept-is.ensures _ _ c.take-tally.ensures,
      o.tells w.1,
    )
