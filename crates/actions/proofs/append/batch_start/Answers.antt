-- The first word of the chunk, and its committed lines behind.
-- Assumes nothing.
use mathlib.Core.Path.{ap}
use Prim.Native.Nat.{◌%◌}
use native.Mathlib.Omega.{arith}
use Rattle.spec.specs.Places.{base}
use Rattle.spec.specs.declared.Size.{Size}
use Rattle.places.specs.Sizes.{power_of}
use Rattle.actions.proofs.Bounds.{base-few}
use borrow.Author.Rules.{rules}
use Rattle.actions.proofs.append.batch_start.Goals as goal

pub first_word-requires : goal.first_word-requires
first_word-requires c =
    let f = base-few c.size_by-size.result (c.args.setup.chunk % 512) (omega arith) in
    omega arith

pub overflow_add-result : goal.overflow_add-result
overflow_add-result c =
    let f = base-few c.size_by-size.result (c.args.setup.chunk % 512) (omega arith) in
    search rules

pub returns : goal.returns
returns c =
    let f = base-few c.size_by-size.result (c.args.setup.chunk % 512) (omega arith) in
    let e = ap (λ (x : Size). base (power_of x) (c.args.setup.chunk % 512)) c.size_by-size.ensures in
    (omega arith, omega arith)
