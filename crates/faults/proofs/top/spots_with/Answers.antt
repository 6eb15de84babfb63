-- `faults::top::spots_with` meets its contract.
-- Assumes nothing.
use mathlib.Core.Path.{refl, sym, ◌∙◌}
use Prim.Native.Nat.{ℕ}
use native.Mathlib.Omega.{arith}
use lib.ListN.{length-replicate}
use Rattle.spec.specs.Words.{words_of}
use Rattle.consistency.proofs.Tests.{known_of}
use Rattle.faults.proofs.Sweeps.{done_none, done_next}
use Rattle.faults.proofs.Ends.{spotted}
use Rattle.faults.proofs.top.spots_with.Goals as goal

pub loop-low-init : goal.loop-low-init
loop-low-init c =
    let a = c.args in (
      length-replicate {A = ℕ} 65536 0,
      refl,
      omega arith,
      omega arith,
      omega arith,
      done_none a.size a.count (words_of a.image.now) a.units.now c.requires.long c.requires.zero,
    )

pub slice_bounds-collect-end : goal.slice_bounds-collect-end
slice_bounds-collect-end c = sym c.loop-low.invariant.0

pub loop-low-preserved-in-Some : goal.loop-low-preserved-in-Some
loop-low-preserved-in-Some c =
    let i = c.loop-low.invariant in
    let h = c.range_end-high.ensures in
    let w = c.next_width-width.ensures in
    let s = c.sweep-s.ensures in (
      c.collect-keys.ensures.sized ∙ i.0,
      s.sized ∙ i.1,
      h.1,
      w.0,
      w.1,
      done_next _ _ _ _ _ _ i.5 _ (omega arith) _ _ _ _ _ c.collect-keys.ensures (known_of _ _ _ c.and-known.ensures) _ c.sweep-s.result s,
    )

pub loop-low-preserved : goal.loop-low-preserved
loop-low-preserved c =
    let i = c.loop-low.invariant in
    let h = c.range_end-high.ensures in
    let s = c.sweep-s.ensures in (
      c.collect-keys.ensures.sized ∙ i.0,
      s.sized ∙ i.1,
      h.1,
      i.3,
      i.4,
      done_next _ _ _ _ _ _ i.5 _ (omega arith) _ _ _ _ _ c.collect-keys.ensures (known_of _ _ _ c.and-known.ensures) _ c.sweep-s.result s,
    )

pub returns : goal.returns
returns c =
    let i = c.loop-low.invariant in
    let l = i.2 in
    spotted _ _ _ _ _ _ i.5 (omega arith)
