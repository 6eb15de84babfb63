-- `logs::next_in_log` meets its contract.
-- Assumes nothing.
use mathlib.Core.Path.{sym, ◌∙◌}
use native.Mathlib.Omega.{arith}
use Rattle.spec.specs.Words.{words_of}
use Rattle.places.specs.Sizes.{power_of}
use Rattle.words.specs.Image.{length-words_of}
use Rattle.theory_log.proofs.Walk.{room-padding, room-entry}
use Rattle.logs.proofs.Walk.{next-none, next-wrong, next-chunk, next-padding, next-found, left-chunk, left-padding, handed-from}
use Rattle.logs.proofs.next_in_log.Goals as goal

pub returns-then-saturating_sub-here : goal.returns-then-saturating_sub-here
returns-then-saturating_sub-here c = c.loop-here.invariant.same ∙ next-none _ _ _ _ _ _ (sym c.in-End.ensures) (omega arith)

pub loop-here-smaller-in-End : goal.loop-here-smaller-in-End
loop-here-smaller-in-End c = left-chunk _ _ _ _ _ _ _ (omega arith) c.chunk_cursor-here.ensures

pub loop-here-preserved-in-End : goal.loop-here-preserved-in-End
loop-here-preserved-in-End c =
    let a = c.args in
    let w = c.loop-here in
    let l = left-chunk (power_of a.size) a.count (words_of a.img.now) w.here.chunk w.here.at w.here.end c.chunk_cursor-here.result (omega arith) c.chunk_cursor-here.ensures in
    record {
      same = w.invariant.same ∙ next-chunk _ _ _ _ _ _ _ (sym c.in-End.ensures) (omega arith) c.chunk_cursor-here.ensures;
      nearer = omega arith;
    }

pub returns-in-Wrong : goal.returns-in-Wrong
returns-in-Wrong c = c.loop-here.invariant.same ∙ next-wrong _ _ _ _ _ _ (sym c.in-Wrong.ensures)

pub overflow_add-here-in-Padding : goal.overflow_add-here-in-Padding
overflow_add-here-in-Padding c =
    let ws = words_of c.args.img.now in
    let w = c.loop-here in
    let r = room-padding ws w.here.at w.here.end (sym c.in-Padding.ensures) in
    let n = length-words_of c.args.img.now in
    omega arith

pub loop-here-smaller : goal.loop-here-smaller
loop-here-smaller c = left-padding 12 _ _ _ _ _ (sym c.in-Padding.ensures)

pub loop-here-preserved : goal.loop-here-preserved
loop-here-preserved c =
    let a = c.args in
    let w = c.loop-here in
    let q = sym c.in-Padding.ensures in
    let l = left-padding 12 a.count (words_of a.img.now) w.here.chunk w.here.at w.here.end q in
    record { same = w.invariant.same ∙ next-padding _ _ _ _ _ _ q; nearer = omega arith }

pub overflow_add-result : goal.overflow_add-result
overflow_add-result c =
    let ws = words_of c.args.img.now in
    let w = c.loop-here in
    let r = room-entry ws w.here.at w.here.end _ _ _ _ _ c.in-Entry.words (sym c.in-Entry.ensures) in
    let n = length-words_of c.args.img.now in
    omega arith

pub overflow_add-result-in-Entry : goal.overflow_add-result-in-Entry
overflow_add-result-in-Entry c =
    let ws = words_of c.args.img.now in
    let w = c.loop-here in
    let r = room-entry ws w.here.at w.here.end _ _ _ _ _ c.in-Entry.words (sym c.in-Entry.ensures) in
    let n = length-words_of c.args.img.now in
    omega arith

pub returns-in-Entry : goal.returns-in-Entry
returns-in-Entry c =
    let w = c.loop-here in
    handed-from _ _ _ _ _ _ w.invariant.same w.invariant.nearer (next-found _ _ _ w.here.chunk _ _ _ _ _ _ _ _ (sym c.in-Entry.ensures))
