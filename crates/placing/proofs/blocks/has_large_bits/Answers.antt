-- `placing::blocks::has_large_bits` meets its contract: each test was reached by those before it.
-- Assumes nothing.
use mathlib.Core.Path.{◌≡◌, sym, ◌∙◌}
use Prim.Native.Nat.{ℕ}
use native.Mathlib.Omega.{arith}
use borrow.Author.Tests.{eqb-true}
use Rattle.placing.proofs.Full.{large-bits}
use Rattle.placing.proofs.blocks.has_large_bits.Goals as goal
use Rattle.placing.proofs.blocks.has_large_bits.Goals.{then-buffer-at, else-buffer-at, then-buffer-at-2, else-buffer-at-2}

pub returns-then-buffer-at-3 : goal.returns-then-buffer-at-3
returns-then-buffer-at-3 c =
    let a = c.args in
    elim c.if-buffer-at-2.branch [
      | then-buffer-at-2 w ↦ elim c.if-buffer-at.branch [
        | then-buffer-at v ↦ record {
          same = λ e. large-bits a.buffer.now a.c a.bits c.if-c-ge504.false v.if-buffer-at.true (eqb-true _ _ (sym v.value-is ∙ w.if-buffer-at-2.true)) (eqb-true _ _ (sym w.value-is ∙ c.if-buffer-at-3.true)) (eqb-true _ _ e);
        }
        | else-buffer-at v ↦ absurd (v.if-buffer-at.false (eqb-true _ _ (sym v.value-is ∙ w.if-buffer-at-2.true)))
      ]
      | else-buffer-at-2 w ↦ absurd (let z : ◌≡◌ {A = ℕ} 0 1 = cc in omega arith)
    ]
