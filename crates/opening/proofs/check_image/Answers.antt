-- `opening::check_image` meets its contract.
-- Assumes nothing.
use Rattle.opening.proofs.Opens.{judge-length, judge-power, judge-header, judge-directory, judge-rest}
use Rattle.opening.proofs.check_image.Goals as goal

pub returns-then-not-length_allowed : goal.returns-then-not-length_allowed
returns-then-not-length_allowed c = judge-length _ _ _ _ c.length_allowed.ensures c.if-not-length_allowed.true

pub returns-then-not-power_fits : goal.returns-then-not-power_fits
returns-then-not-power_fits c =
    judge-power _ _ _ c.length_allowed.ensures c.if-not-length_allowed.false _ c.power_said-power.ensures _
    c.power_fits.ensures _ c.if-not-power_fits.true

pub returns-then-not-header_fits : goal.returns-then-not-header_fits
returns-then-not-header_fits c =
    judge-header _ _ _ c.length_allowed.ensures c.if-not-length_allowed.false _ c.power_said-power.ensures _
    c.power_fits.ensures c.if-not-power_fits.false _ c.size_by-size.ensures _
    c.chunks_in-count.ensures.0 _ c.header_fits.ensures _ c.if-not-header_fits.true

pub returns-then-not-directory_fits : goal.returns-then-not-directory_fits
returns-then-not-directory_fits c =
    judge-directory _ _ _ c.length_allowed.ensures c.if-not-length_allowed.false _ c.power_said-power.ensures _
    c.power_fits.ensures c.if-not-power_fits.false _ c.size_by-size.ensures _
    c.chunks_in-count.ensures.0 _ c.header_fits.ensures c.if-not-header_fits.false _
    c.directory_fits.ensures _ c.if-not-directory_fits.true

pub returns : goal.returns
returns c =
    judge-rest _ _ _ c.length_allowed.ensures c.if-not-length_allowed.false _ c.power_said-power.ensures _
    c.power_fits.ensures c.if-not-power_fits.false _ c.size_by-size.ensures _
    c.chunks_in-count.ensures.0 _ c.header_fits.ensures c.if-not-header_fits.false _
    c.directory_fits.ensures c.if-not-directory_fits.false _ _ _ _ c.check_log.ensures
