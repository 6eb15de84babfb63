-- `consistency::check_classes` meets its contract.
-- Assumes nothing.
use mathlib.Core.Path.{sym, ◌∙◌}
use Prim.Native.Nat.{ℕ}
use native.Mathlib.Omega.{arith}
use lib.ListN.{length-replicate}
use Rattle.std.proofs.lemmas.Bool.{not-true, not-false}
use Rattle.spec.specs.Words.{words_of}
use Rattle.consistency.proofs.Tests.{known_of, done_none, done_all, done_next, done-wrong}
use Rattle.consistency.proofs.check_classes.Goals as goal

pub loop-low-init : goal.loop-low-init
loop-low-init c =
    let a = c.args in
    (length-replicate {A = ℕ} 65536 0, omega arith, omega arith, omega arith, done_none a.size a.count (words_of a.image.now) a.buffer.now)

pub slice_bounds-collect-end : goal.slice_bounds-collect-end
slice_bounds-collect-end c = sym c.loop-low.invariant.0

pub returns-then-not-s : goal.returns-then-not-s
returns-then-not-s c =
    let i = c.loop-low.invariant in
    done-wrong _ _ _ _ _ _ _ i.4 _ (omega arith) _ _ _ _ _ c.collect-keys.ensures (known_of _ _ _ c.and-known.ensures) _
    c.check_class-s.result c.check_class-s.ensures (not-true _ c.if-not-s.true)

pub loop-low-preserved-in-Some : goal.loop-low-preserved-in-Some
loop-low-preserved-in-Some c =
    let i = c.loop-low.invariant in
    let h = c.range_end-high.ensures in
    let w = c.next_width-width.ensures in (
      c.collect-keys.ensures.sized ∙ i.0,
      h.1,
      w.0,
      w.1,
      done_next _ _ _ _ _ _ _ i.4 _ (omega arith) _ _ _ _ _ c.collect-keys.ensures (known_of _ _ _ c.and-known.ensures) _
          c.check_class-s.result c.check_class-s.ensures (not-false _ c.if-not-s.false),
    )

pub loop-low-preserved : goal.loop-low-preserved
loop-low-preserved c =
    let i = c.loop-low.invariant in
    let h = c.range_end-high.ensures in (
      c.collect-keys.ensures.sized ∙ i.0,
      h.1,
      i.2,
      i.3,
      done_next _ _ _ _ _ _ _ i.4 _ (omega arith) _ _ _ _ _ c.collect-keys.ensures (known_of _ _ _ c.and-known.ensures) _
          c.check_class-s.result c.check_class-s.ensures (not-false _ c.if-not-s.false),
    )

pub returns : goal.returns
returns c =
    let i = c.loop-low.invariant in
    let l = i.1 in
    done_all _ _ _ _ _ _ _ i.4 (omega arith)
