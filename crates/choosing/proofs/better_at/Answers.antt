-- `choosing::better_at` meets its contract.
-- Assumes nothing.
use mathlib.Core.Path.{◌≡◌, refl}
use Rattle.spec.specs.Words.{words_of}
use Rattle.choosing.specs.Choices.{Bettered}
use Rattle.choosing.proofs.Laws.{better-none, better-counted, better-weighed}
use Rattle.choosing.proofs.better_at.Goals as goal
use Rattle.choosing.proofs.better_at.Goals.{in-Some+else-b-least, in_default, then-sum-lt4294967296, else-sum-lt4294967296}

pub returns-then-b-least : goal.returns-then-b-least
returns-then-b-least c =
    rw (← c.in-Some.is) (better-none c.args.size (words_of c.args.image.now) _ _ _ _ _ _ c.sum_at-sum.ensures refl _ c.in-Some.is c.if-b-least.true)

pub returns : goal.returns
returns c =
    let a = c.args in
    let same : c.match-best.best ≡ a.best = elim c.match-best.branch [ in-Some+else-b-least w ↦ cc | in_default w ↦ cc ] in
    let b : Bettered a.best c.if-sum-lt4294967296.next c.better_of.result = rw same at c.better_of.ensures in
    elim c.if-sum-lt4294967296.branch [
      | then-sum-lt4294967296 w ↦ better-counted a.size (words_of a.image.now) _ _ _ _ _ _ c.sum_at-sum.ensures refl _ _ w.if-sum-lt4294967296.true w.counted_at-next.ensures (rw w.next-is at b)
      | else-sum-lt4294967296 w ↦ better-weighed a.size (words_of a.image.now) _ _ _ _ _ _ w.candidate_at-next.ensures (rw w.next-is at b)
    ]
