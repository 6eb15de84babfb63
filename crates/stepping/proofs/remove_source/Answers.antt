-- `stepping::remove_source` meets its contract.
-- Assumes nothing.
use mathlib.Core.Path.{refl}
use Prim.Native.Nat.{◌%◌}
use native.Mathlib.Omega.{arith}
use Rattle.actions.proofs.Bounds.{base-few}
use Rattle.stepping.proofs.CleanShows.{shows_left}
use borrow.Author.Rules.{rules}
use Rattle.stepping.proofs.remove_source.Goals as goal

pub first_word-at-requires : goal.first_word-at-requires
first_word-at-requires c =
    let f = base-few c.size_by-size.result (c.args.source.chunk % 512) (omega arith) in
    omega arith

pub overflow_add-end : goal.overflow_add-end
overflow_add-end c =
    let f = base-few c.size_by-size.result (c.args.source.chunk % 512) (omega arith) in
    search rules

pub returns : goal.returns
returns c =
    let m = c.kept_lines in
    let s = c.batch_start-from in
    let z = c.size_by-size in
    shows_left _ _ z.result _ _ _ _ _ _ _ m.result _ _ s.result _ _ z.ensures m.ensures
    c.first_word-at.ensures refl s.ensures.0 refl c.chunks_in-count.ensures.0
    c.remove_chunk.ensures
