-- `choosing::candidate_at` meets its contract.
-- Assumes nothing.
use mathlib.Core.Path.{refl}
use Prim.Native.Nat.{◌%◌}
use native.Mathlib.Omega.{arith}
use Rattle.actions.proofs.Bounds.{base-few}
use Rattle.choosing.proofs.Laws.{weighed}
use Rattle.choosing.proofs.candidate_at.Goals as goal

pub first_word-at-requires : goal.first_word-at-requires
first_word-at-requires c = let f = base-few c.args.size (c.args.chunk % 512) (omega arith) in omega arith

pub overflow_add-end : goal.overflow_add-end
overflow_add-end c = let f = base-few c.args.size (c.args.chunk % 512) (omega arith) in let w = c.first_word-at.ensures in let l = c.lines_of-lines.ensures.1 in omega arith

pub returns : goal.returns
returns c = weighed _ _ _ _ _ _ _ _ c.lines_of-lines.ensures.0 c.first_word-at.ensures refl c.kept_size-tally.ensures
