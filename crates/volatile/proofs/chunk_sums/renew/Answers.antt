-- `renew` meets its contract.
-- Assumes nothing.
use Rattle.spec.specs.Words.{words_of}
use Rattle.volatile.proofs.Renews.{renewed-new, renewed-high, renewed-low}
use Rattle.volatile.proofs.chunk_sums.renew.Goals as goal

pub returns-then-old-eq0 : goal.returns-then-old-eq0
returns-then-old-eq0 c =
    renewed-new c.args.size (words_of c.args.image.now) _ _ _ _ _ c.unpack-new.ensures _
    c.if-old-eq0.true c.add.ensures

pub returns-then-info-new : goal.returns-then-info-new
returns-then-info-new c =
    renewed-high c.args.size (words_of c.args.image.now) _ _ _ _ _ c.unpack-new.ensures _
    c.unpack-info.ensures c.if-old-eq0.false _ _ _ c.if-info-new.true c.weigh_at-gone.ensures
    c.take_off.ensures c.add-then-info-new.ensures

pub returns-else-info-new : goal.returns-else-info-new
returns-else-info-new c =
    renewed-low c.args.size (words_of c.args.image.now) _ _ _ _ _ c.unpack-new.ensures _
    c.unpack-info.ensures c.if-old-eq0.false c.told-buffer
    c.if-info-new.false
