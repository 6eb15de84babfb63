-- `directory::free_from` meets its contract.
-- Assumes nothing.
use Prim.Native.Nat.{◌+◌}
use mathlib.Core.Path.{sym, ◌∙◌}
use native.Mathlib.Omega.{arith}
use Rattle.directory.proofs.Several.{counted-behind, counted_none, counted-one, several-here, several-nowhere}
use Rattle.directory.proofs.free_from.Invariants.{free}
use Rattle.directory.proofs.free_from.Goals as goal
use Rattle.directory.proofs.free_from.Goals.{then-is_free+else-needed-seen, else-is_free}

pub loop-c-init : goal.loop-c-init
loop-c-init c = let a = c.args in (omega arith, λ none. ((λ h. omega arith), counted-behind (free a.size a.image.now) 1 a.from none))

pub returns-then-needed-seen : goal.returns-then-needed-seen
returns-then-needed-seen c none =
    let a = c.args in
    let at = c.loop-c in
    let one = counted-one (free a.size a.image.now) 1 at.c at.first at.seen (omega arith) (sym c.is_free.ensures ∙ c.if-is_free.true) (at.invariant.1 none).1 in
    c.or-first.ensures ∙ several-here (free a.size a.image.now) 1 a.needed (at.c + 1) a.count _ (at.seen + 1) (omega arith) (omega arith) (omega arith) (omega arith) one

pub loop-c-preserved : goal.loop-c-preserved
loop-c-preserved c =
    let a = c.args in
    let at = c.loop-c in
    elim c.if-is_free.branch [
      | then-is_free+else-needed-seen w ↦ rw (w.first-is, w.seen-is, w.or-first.ensures) (
        omega arith,
        λ none. ((λ h. w.if-needed-seen.false), counted-one (free a.size a.image.now) 1 at.c at.first at.seen (omega arith) (sym c.is_free.ensures ∙ w.if-is_free.true) (at.invariant.1 none).1),
      )
      | else-is_free w ↦ rw (w.first-is, w.seen-is) (
        omega arith,
        λ none. ((at.invariant.1 none).0, counted_none (free a.size a.image.now) 1 at.c at.first at.seen (omega arith) (sym c.is_free.ensures ∙ w.if-is_free.false) (at.invariant.1 none).1),
      )
    ]

pub returns : goal.returns
returns c none =
    let a = c.args in
    let at = c.loop-c in
    several-nowhere (free a.size a.image.now) 1 a.needed at.c a.count at.first at.seen (omega arith) (omega arith) (at.invariant.1 none).0 (at.invariant.1 none).1
