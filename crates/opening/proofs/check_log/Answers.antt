-- `opening::check_log` meets its contract.
-- Assumes nothing.
use mathlib.Core.Path.{◌≡◌}
use mathlib.Core.Bool.{true, false}
use Rattle.std.proofs.lemmas.Bool.{not-true, not-false}
use Rattle.spec.specs.Basics.{both}
use Rattle.opening.proofs.Opens.{log-block, log-tops, log-end}
use Rattle.opening.proofs.check_log.Goals as goal
use Rattle.opening.proofs.check_log.Goals.{then-not-checked-2-via-then-not-checked-2, then-not-checked-2-via-else-not-checked-2+then-not-checked-3}

pub returns-then-not-checked : goal.returns-then-not-checked
returns-then-not-checked c =
    log-block _ _ _ _ _ _ _ _ c.in-Ok.ensures _ c.and-known.ensures _ _ c.examine-checked.ensures (not-true _ c.if-not-checked.true)

pub returns-then-not-checked-2 : goal.returns-then-not-checked-2
returns-then-not-checked-2 c =
    let r = c.examine-checked.result in
    let odd : both r.agreeing r.apart ≡ false = elim c.then-not-checked-2.branch [
      | then-not-checked-2-via-then-not-checked-2 w ↦ rw (not-true _ w.if-not-checked-2.true)
      | then-not-checked-2-via-else-not-checked-2+then-not-checked-3 w ↦ rw (not-false _ w.if-not-checked-2.false, not-true _ w.if-not-checked-3.true)
    ] in
    log-tops _ _ _ _ _ _ _ _ c.in-Ok.ensures _ c.and-known.ensures _ _ c.examine-checked.ensures (not-false _ c.if-not-checked.false) odd

pub returns : goal.returns
returns c =
    let r = c.examine-checked.result in
    let fine : both r.agreeing r.apart ≡ true = rw (not-false _ c.if-not-checked-2.false, not-false _ c.if-not-checked-3.false) in
    log-end _ _ _ _ _ _ _ _ c.in-Ok.ensures _ c.and-known.ensures _ _ c.examine-checked.ensures (not-false _ c.if-not-checked.false) fine _ c.ok_or.ensures.value
