-- `opening::fill::skip_padding` meets its contract.
-- Assumes nothing.
use Rattle.std.proofs.Common.{◌≡◌, sym, ◌∙◌, arith}
use Rattle.spec.specs.Words.{words_of}
use Rattle.words.specs.Image.{length-words_of}
use Rattle.opening.proofs.Skips.{skip-start, skip-more}
use Rattle.opening.proofs.fill.skip_padding.Goals as goal

pub loop-place-init : goal.loop-place-init
loop-place-init c = (omega arith, skip-start _ _ _)

pub loop-place-preserved : goal.loop-place-preserved
loop-place-preserved c =
    let a = c.args in
    let n = length-words_of a.image.now in
    let s = c.min-stop.ensures in (
      omega arith,
      skip-more (words_of a.image.now) a.end a.at c.loop-place.place
          c.loop-place.invariant.1 (omega arith) (omega arith) (sym (c.if-load-ne0.false) ∙ c.load.ensures),
    )

pub returns-then-load-ne0 : goal.returns-then-load-ne0
returns-then-load-ne0 c = c.loop-place.invariant.1

pub returns : goal.returns
returns c =
    let i = c.loop-place.invariant.0 in
    let e : c.max.result ≡ c.loop-place.place = omega arith in
    rw e c.loop-place.invariant.1
