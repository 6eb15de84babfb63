-- `remove` meets its contract.
-- Assumes nothing.
use Rattle.std.proofs.Common.{◌≡◌, ◌∙◌, sym, ap, refl, inr, ◌<◌, ◌+◌, ◌-◌, ◌/◌, length, arith}
use Rattle.index.specs.Index.{key_at, slots, hash_of}
use Rattle.index.proofs.Slots.{hash-below}
use Rattle.index.proofs.Answers.{look_in, look-out}
use Rattle.index.specs.Distance.{dist}
use Rattle.index.proofs.Removal.{moving-start, moving-skip, moving-move, returns-not, returns-removed, returns-absent}
use Rattle.index.proofs.remove.Goals as goal
use Rattle.index.proofs.remove.Goals.{then-distance, else-distance, then-n-at-via-then-n-at, then-n-at-via-else-n-at+then-table-at-eq0}

pub returns-then-n-at : goal.returns-then-n-at
returns-then-n-at c =
    let a = c.args in
    let w = c.slot_of-at in
    returns-absent a.table.now a.key (elim c.then-n-at.branch [
      | then-n-at-via-then-n-at z ↦ sym (look-out a.table.now a.key w.result w.ensures z.if-n-at.true)
      | then-n-at-via-else-n-at+then-table-at-eq0 z ↦ sym (look_in a.table.now a.key w.result w.ensures) ∙ z.if-table-at-eq0.true
    ])

pub loop-step-init : goal.loop-step-init
loop-step-init c =
    let a = c.args in
    let w = c.slot_of-at in
    let n = length a.table.now / 2 in
    let all : n - 0 ≡ n = omega arith in
    (refl, rw (c.next_slot-j.ensures, all) (moving-start a.table.now a.key w.result w.ensures (omega arith) c.if-table-at-eq0.false))

pub returns-then-info-eq0 : goal.returns-then-info-eq0
returns-then-info-eq0 c =
    let a = c.args in
    let w = c.loop-step in
    returns-removed (slots a.table.now) a.table.now w.table c.slot_of-at.result w.hole w.j _ a.key w.invariant.1 c.if-j-hole.false c.if-info-eq0.true

pub distance-requires : goal.distance-requires
distance-requires c = (rw c.hash-h.ensures (hash-below _ _ (omega arith)), omega arith)

pub distance-requires-in-loop-step : goal.distance-requires-in-loop-step
distance-requires-in-loop-step c = (rw c.hash-h.ensures (hash-below _ _ (omega arith)), omega arith)

pub loop-step-preserved : goal.loop-step-preserved
loop-step-preserved c =
    let a = c.args in
    let w = c.loop-step in
    let t = w.table in
    let n = slots a.table.now in
    let from = c.slot_of-at.result in
    let more : 0 < n - w._step = omega arith in
    let less : n - (w._step + 1) ≡ n - w._step - 1 = omega arith in
    let hd = c.hash-h.ensures in
    let d1 : c.distance.result ≡ dist n (hash_of (key_at t w.j) n) w.hole = c.distance.ensures ∙ ap (λ x. dist n x w.hole) hd in
    let d2 : c.distance-in-loop-step.result ≡ dist n (hash_of (key_at t w.j) n) w.j = c.distance-in-loop-step.ensures ∙ ap (λ x. dist n x w.j) hd in
    elim c.if-distance.branch [
      | then-distance z ↦ (
        refl,
        rw (z.table-is, z.hole-is, c.next_slot-j-in-loop-step.ensures, less)
            (moving-move n a.table.now t from w.hole w.j _ a.key w.invariant.1 more c.if-j-hole.false c.if-info-eq0.false (omega (arith, z.if-distance.true))),
      )
      | else-distance z ↦ (
        refl,
        rw (z.table-is, z.hole-is, c.next_slot-j-in-loop-step.ensures, less)
            (moving-skip n a.table.now t from w.hole w.j _ a.key w.invariant.1 more c.if-info-eq0.false (λ b. omega (arith, z.if-distance.false))),
      )
    ]

pub returns : goal.returns
returns c =
    let a = c.args in
    let w = c.loop-step in
    returns-not (slots a.table.now) a.table.now w.table c.slot_of-at.result w.hole w.j _ a.key w.invariant.1 (inr (omega arith))
