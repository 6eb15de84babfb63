-- `logs::chunk_cursor` meets its contract: a chunk past the image has no words, so an empty place stands for it.
-- Assumes nothing.
use Prim.Native.Nat.{◌/◌}
use mathlib.Core.Path.{◌≡◌, refl, sym}
use native.Mathlib.Omega.{arith}
use lib.ListN.{length}
use Rattle.spec.specs.Words.{words_of}
use Rattle.places.specs.Sizes.{power_of}
use Rattle.words.specs.Image.{length-words_of}
use Rattle.logs.proofs.Chunks.{chunk-within, chunk-behind, chunk-past}
use Rattle.logs.proofs.chunk_cursor.Goals as goal

pub returns-then-n-c : goal.returns-then-n-c
returns-then-n-c c =
    let a = c.args in
    let ws = words_of a.img.now in
    let n : length ws ≡ length a.img.now / 8 = length-words_of a.img.now in
    let e = c.chunks_in-n.ensures.0 in
    let b = chunk-behind a.size (length a.img.now) a.c (omega arith) in
    record { chunk = refl; entries = sym (chunk-past (power_of a.size) ws a.c (omega arith)) }

pub first_word-at-requires : goal.first_word-at-requires
first_word-at-requires c =
    let a = c.args in
    let e = c.chunks_in-n.ensures.0 in
    let b = chunk-within a.size (length a.img.now) a.c (omega arith) in
    omega arith

pub overflow_add-result : goal.overflow_add-result
overflow_add-result c =
    let a = c.args in
    let e = c.chunks_in-n.ensures.0 in
    let b = chunk-within a.size (length a.img.now) a.c (omega arith) in
    let f = c.first_word-at.ensures in
    omega arith
