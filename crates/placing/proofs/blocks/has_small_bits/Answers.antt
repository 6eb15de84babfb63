-- `placing::blocks::has_small_bits` meets its contract.
-- Assumes nothing.
use borrow.Author.Tests.{eqb-true}
use Rattle.placing.proofs.Full.{small-bits}
use Rattle.placing.proofs.blocks.has_small_bits.Goals as goal

pub returns-then-c-lt504 : goal.returns-then-c-lt504
returns-then-c-lt504 c =
    let a = c.args in
    record { same = λ e. small-bits a.buffer.now a.c a.bits c.if-c-lt504.true (eqb-true _ _ e) }
