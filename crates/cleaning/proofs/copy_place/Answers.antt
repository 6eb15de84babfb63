-- `cleaning::copy_place` meets its contract: a log chunk with space, else a free chunk, else nothing.
-- Assumes nothing.
use mathlib.Core.Path.{◌∙◌, ap}
use Rattle.std.specs.Prelude.{Some}
use Rattle.spec.specs.Words.{words_of}
use Rattle.cleaning.proofs.Finding.{shows-log, shows-free, shows-nowhere}
use Rattle.cleaning.proofs.copy_place.Goals as goal

pub returns-in-Some : goal.returns-in-Some
returns-in-Some c =
    let a = c.args in
    ap Some c.place_at.ensures ∙ shows-log a.size (words_of a.image.now) a.count a.lines a.x c.next_chunk.result c.next_chunk.ensures _ c.in-Some.is

pub returns : goal.returns
returns c =
    let a = c.args in
    ap Some c.place_at-2.ensures ∙ shows-free a.size (words_of a.image.now) a.count a.lines a.x c.next_chunk.result c.next_chunk.ensures c.in_default.is _ c.free_chunk.ensures _ c.in_ok-c.was

pub returns-in_err-c : goal.returns-in_err-c
returns-in_err-c c =
    let a = c.args in
    c.from_residual.ensures ∙ shows-nowhere a.size (words_of a.image.now) a.count a.lines a.x c.next_chunk.result c.next_chunk.ensures c.in_default.is _ c.free_chunk.ensures c.in_err-c.was
