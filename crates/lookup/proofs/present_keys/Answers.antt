-- `lookup::present_keys` meets its contract: a slot's key is taken in, if it is present.
-- Assumes nothing.
use mathlib.Core.Path.{◌≡◌, sym, ap, ◌∙◌}
use Prim.Native.Nat.{◌+◌}
use native.Mathlib.Omega.{arith}
use Rattle.std.specs.Prelude.{is_ok}
use Rattle.spec.specs.Words.{words_of}
use Rattle.lookup.specs.Listing.{Listed}
use Rattle.lookup.proofs.Answers.{taken_none, taken-some}
use Rattle.lookup.proofs.Slots.{slotting-on, gathered}
use Rattle.lookup.proofs.present_keys.Goals as goal
use Rattle.lookup.proofs.present_keys.Goals.{then-is_ok, else-is_ok}

pub loop-slot-preserved : goal.loop-slot-preserved
loop-slot-preserved c =
    let a = c.args in
    let l = c.loop-slot in
    let present = sym (ap (λ (r : Listed). is_ok r) c.by_word.ensures) ∙ sym c.is_ok.ensures.value in
    elim c.if-is_ok.branch [
      | then-is_ok w ↦
          let t = taken-some a.size (words_of a.image.now) _ _ l.kept l.out _ _ (present ∙ w.if-is_ok.true) w.take_in-kept.ensures in
          let s = slotting-on a.size (words_of a.image.now) a.table.now a.out.now l.out _ l.slot l.kept l.count _ _ l.invariant.2 c.loop-slot-test.true t in
          rw (w.out-is, w.kept-is, w.count-is) (s.sized, omega arith, s)
      | else-is_ok w ↦
          let t = taken_none a.size (words_of a.image.now) _ _ l.kept l.out (present ∙ w.if-is_ok.false) in
          let s = slotting-on a.size (words_of a.image.now) a.table.now a.out.now l.out _ l.slot l.kept l.count _ _ l.invariant.2 c.loop-slot-test.true t in
          let z : l.count + 0 ≡ l.count = omega arith in
          rw (w.out-is, w.kept-is, w.count-is) (s.sized, omega arith, rw z at s)
    ]

pub returns : goal.returns
returns c =
    let a = c.args in
    let l = c.loop-slot in
    gathered a.size (words_of a.image.now) a.table.now a.out.now l.out _ l.slot l.kept l.count l.invariant.2 c.loop-slot-test.false c.arrange.ensures
