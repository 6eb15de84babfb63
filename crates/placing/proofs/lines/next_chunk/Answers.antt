-- `placing::lines::next_chunk` meets its contract.
-- Assumes nothing.
use mathlib.Core.Path.{sym, ◌∙◌}
use native.Mathlib.Omega.{arith}
use Rattle.spec.specs.Words.{words_of}
use Rattle.places.specs.Sizes.{power_of}
use Rattle.spec.specs.Plans.{has_space}
use Rattle.directory.proofs.Search.{before_more}
use Rattle.placing.proofs.Hint.{sought-at, sought-none}
use Rattle.placing.proofs.lines.next_chunk.Goals as goal

pub loop-c-init : goal.loop-c-init
loop-c-init c = λ d l u. absurd (omega arith)

pub returns-then-has_other_space : goal.returns-then-has_other_space
returns-then-has_other_space c =
    let a = c.args in
    sought-at (has_space (power_of a.size) (words_of a.image.now) a.lines a.x) a.from a.count c.loop-c.c (omega arith) (omega arith) c.loop-c.invariant
    (sym c.has_other_space.ensures ∙ c.if-has_other_space.true)

pub loop-c-preserved : goal.loop-c-preserved
loop-c-preserved c =
    let a = c.args in
    before_more (has_space (power_of a.size) (words_of a.image.now) a.lines a.x) a.from c.loop-c.c c.loop-c.invariant
    (sym c.has_other_space.ensures ∙ c.if-has_other_space.false)

pub returns : goal.returns
returns c =
    let a = c.args in
    sought-none (has_space (power_of a.size) (words_of a.image.now) a.lines a.x) a.from a.count
    (λ d l u. c.loop-c.invariant d l (omega arith))
