-- `placing::lines::has_space` meets its contract: a chunk without committed lines is no log chunk.
-- Assumes nothing.
use Prim.Native.Nat.{◌+◌}
use mathlib.Core.Path.{sym, ◌∙◌, ap}
use mathlib.Core.Logic.{⊎_elim}
use mathlib.Core.Bool.{not}
use native.Mathlib.Omega.{arith}
use lib.Dec.{leb}
use borrow.Author.Tests.{lt-leb, eq-eqb}
use Rattle.spec.specs.Words.{words_of}
use Rattle.places.specs.Sizes.{power_of}
use Rattle.placing.proofs.Space.{no_lines, space-left}
use Rattle.placing.proofs.lines.has_space.Goals as goal
use Rattle.placing.proofs.lines.has_space.Goals.{then-committed-ne0, else-committed-ne0}

pub returns-then-lines-most : goal.returns-then-lines-most
returns-then-lines-most c =
    let a = c.args in
    let n = c.lines_of-committed in
    let t = c.if-lines-most.true in
    sym (space-left (power_of a.size) (words_of a.image.now) a.lines a.c n.result n.ensures.0 (omega (arith, t.0)) (omega arith) ∙ ap (leb (n.result + a.lines)) (sym c.lines-most.ensures.0))

pub returns-else-lines-most : goal.returns-else-lines-most
returns-else-lines-most c =
    let a = c.args in
    let n = c.lines_of-committed in
    let m = c.lines-most in
    elim c.if-committed-ne0.branch [
      | then-committed-ne0 w ↦ ⊎_elim
          (λ q. let l = q.1 in w.t-8-is ∙ lt-leb a.lines m.result (omega arith)
          ∙ sym (space-left (power_of a.size) (words_of a.image.now) a.lines a.c n.result n.ensures.0 (omega (arith, q.0)) (omega arith) ∙ ap (leb (n.result + a.lines)) (sym m.ensures.0) ∙ lt-leb (n.result + a.lines) m.result (omega arith)))
          (λ z. absurd (w.if-committed-ne0.true z)) c.if-lines-most.either
      | else-committed-ne0 w ↦ w.t-8-is ∙ ap not (eq-eqb n.result 0 w.if-committed-ne0.false) ∙ sym (no_lines _ _ _ _ (sym n.ensures.0 ∙ w.if-committed-ne0.false))
    ]
