-- `faults::fault_of` meets its contract.
-- Assumes nothing.
use native.Mathlib.Omega.{arith}
use Rattle.faults.proofs.Answers.{few-chunks, directory-below, shows-length, shows-power, shows-header, shows-directory, shows-log}
use Rattle.faults.proofs.fault_of.Goals as goal

pub returns-then-not-length_allowed : goal.returns-then-not-length_allowed
returns-then-not-length_allowed c = shows-length c.args.image.now _ c.length_allowed.ensures c.if-not-length_allowed.true

pub returns-then-not-power_fits : goal.returns-then-not-power_fits
returns-then-not-power_fits c =
    shows-power c.args.image.now _ c.length_allowed.ensures c.if-not-length_allowed.false _
    c.power_said-power.ensures _ c.power_fits.ensures _ _ c.if-not-power_fits.true
    c.load.ensures c.power_word.ensures

pub returns-then-not-header_fits : goal.returns-then-not-header_fits
returns-then-not-header_fits c =
    shows-header c.args.image.now _ c.length_allowed.ensures c.if-not-length_allowed.false _
    c.power_said-power.ensures _ c.power_fits.ensures c.if-not-power_fits.false _
    c.size_by-size.ensures _ c.chunks_in-count.ensures.0 _ c.header_fits.ensures _
    c.if-not-header_fits.true c.header_fault.ensures

pub overflow_add-result : goal.overflow_add-result
overflow_add-result c = let l = directory-below _ _ _ _ c.in-Some.ensures in omega arith

pub returns-in-Some : goal.returns-in-Some
returns-in-Some c =
    shows-directory c.args.image.now _ c.length_allowed.ensures c.if-not-length_allowed.false _
    c.power_said-power.ensures _ c.power_fits.ensures c.if-not-power_fits.false _
    c.size_by-size.ensures _ c.chunks_in-count.ensures.0 _ c.header_fits.ensures
    c.if-not-header_fits.false _ c.in-Some.ensures

pub log_fault-requires : goal.log_fault-requires
log_fault-requires c =
    few-chunks c.args.image.now _ c.length_allowed.ensures c.if-not-length_allowed.false _
    c.power_said-power.ensures _ c.power_fits.ensures c.if-not-power_fits.false _
    c.size_by-size.ensures _ c.chunks_in-count.ensures.0

pub returns-in-None : goal.returns-in-None
returns-in-None c =
    shows-log c.args.image.now _ c.length_allowed.ensures c.if-not-length_allowed.false _
    c.power_said-power.ensures _ c.power_fits.ensures c.if-not-power_fits.false _
    c.size_by-size.ensures _ c.chunks_in-count.ensures.0 _ c.header_fits.ensures
    c.if-not-header_fits.false c.in-None.ensures _ c.log_fault.ensures
