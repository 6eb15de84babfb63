-- `faults::read_log` meets its contract.
-- Assumes nothing.
use mathlib.Core.Path.{refl, sym, ◌∙◌, ap}
use Prim.Native.Nat.{ℕ, ◌+◌, ◌*◌}
use native.Mathlib.Omega.{arith}
use Rattle.places.specs.Sizes.{power_of}
use Rattle.spec.specs.Words.{words_of}
use Rattle.words.specs.Image.{length-words_of}
use Rattle.theory_log.proofs.Walk.{room-padding, room-entry}
use Rattle.faults.specs.Reading.{stop_by}
use Rattle.faults.proofs.Left.{base-most, left_from, stops-not, stops-here, goes-padding, goes-entry, goes-chunk}
use Rattle.faults.proofs.read_log.Goals as goal

pub loop-chunk-init : goal.loop-chunk-init
loop-chunk-init c = (refl, omega arith, omega arith)

pub returns-then-count-chunk : goal.returns-then-count-chunk
returns-then-count-chunk c =
    sym
    (c.loop-chunk.invariant.0 ∙ stops-not (power_of c.args.size) c.args.count (words_of c.args.image.now)
    c.loop-chunk.before c.loop-chunk.chunk c.loop-chunk.at c.loop-chunk.end
    (sym c.in-End.ensures) (omega arith))

pub first_word-at-requires : goal.first_word-at-requires
first_word-at-requires c =
    let b = base-most c.args.size (c.loop-chunk.chunk + 1) in
    omega arith

pub overflow_add-end : goal.overflow_add-end
overflow_add-end c =
    let b = base-most c.args.size (c.loop-chunk.chunk + 1) in
    let q = c.first_word-at.ensures in
    omega arith

pub loop-chunk-preserved-in-End : goal.loop-chunk-preserved-in-End
loop-chunk-preserved-in-End c =
    let a = c.args in
    let w = c.loop-chunk in (
      w.invariant.0
          ∙ goes-chunk (power_of a.size) a.count (words_of a.image.now) w.before w.chunk w.at w.end _
          (sym c.in-End.ensures) (omega arith)
          c.lines_of-lines.ensures.0
          ∙ ap (λ (b : ℕ). stop_by w.before (left_from (power_of a.size) a.count (words_of a.image.now) (w.chunk + 1) b (b + 8 * c.lines_of-lines.result))) (sym c.first_word-at.ensures),
      omega arith,
      omega arith,
    )

pub returns-in-Wrong : goal.returns-in-Wrong
returns-in-Wrong c =
    sym
    (c.loop-chunk.invariant.0 ∙ stops-here (power_of c.args.size) c.args.count (words_of c.args.image.now)
    c.loop-chunk.before c.loop-chunk.chunk c.loop-chunk.at c.loop-chunk.end
    (sym c.in-Wrong.ensures))

pub overflow_add-at : goal.overflow_add-at
overflow_add-at c =
    let r = room-padding (words_of c.args.image.now) c.loop-chunk.at
    c.loop-chunk.end (sym c.in-Padding.ensures) in
    let n = length-words_of c.args.image.now in omega arith

pub loop-chunk-smaller-in-Padding : goal.loop-chunk-smaller-in-Padding
loop-chunk-smaller-in-Padding c =
    let r = room-padding (words_of c.args.image.now) c.loop-chunk.at
    c.loop-chunk.end (sym c.in-Padding.ensures) in
    omega arith

pub loop-chunk-preserved-in-Padding : goal.loop-chunk-preserved-in-Padding
loop-chunk-preserved-in-Padding c =
    let r = room-padding (words_of c.args.image.now) c.loop-chunk.at c.loop-chunk.end
    (sym c.in-Padding.ensures) in (
      c.loop-chunk.invariant.0 ∙ goes-padding (power_of c.args.size) c.args.count (words_of c.args.image.now)
          c.loop-chunk.before c.loop-chunk.chunk c.loop-chunk.at c.loop-chunk.end
          (sym c.in-Padding.ensures),
      omega arith,
      omega arith,
    )

pub overflow_add-at-in-Entry : goal.overflow_add-at-in-Entry
overflow_add-at-in-Entry c =
    let r = room-entry (words_of c.args.image.now) c.loop-chunk.at c.loop-chunk.end _ _ _ _ _
    c.in-Entry.words
    (sym c.in-Entry.ensures) in
    let n = length-words_of c.args.image.now in omega arith

pub overflow_add-at-in-Entry-2 : goal.overflow_add-at-in-Entry-2
overflow_add-at-in-Entry-2 c =
    let r = room-entry (words_of c.args.image.now) c.loop-chunk.at c.loop-chunk.end _ _ _ _ _
    c.in-Entry.words
    (sym c.in-Entry.ensures) in
    let n = length-words_of c.args.image.now in omega arith

pub loop-chunk-smaller : goal.loop-chunk-smaller
loop-chunk-smaller c =
    let r = room-entry (words_of c.args.image.now) c.loop-chunk.at c.loop-chunk.end _ _ _ _ _
    c.in-Entry.words
    (sym c.in-Entry.ensures) in
    omega arith

pub loop-chunk-preserved : goal.loop-chunk-preserved
loop-chunk-preserved c =
    let r = room-entry (words_of c.args.image.now) c.loop-chunk.at c.loop-chunk.end _ _ _ _ _
    c.in-Entry.words
    (sym c.in-Entry.ensures) in (
      c.loop-chunk.invariant.0 ∙ goes-entry (power_of c.args.size) c.args.count (words_of c.args.image.now)
          c.loop-chunk.before c.loop-chunk.chunk c.loop-chunk.at c.loop-chunk.end _ _ _ _ _
          c.in-Entry.words
          (sym c.in-Entry.ensures),
      omega arith,
      omega arith,
    )
