-- `faults::top::visit` meets its contract, case by case.
-- Assumes nothing.
use mathlib.Core.Path.{sym, ◌∙◌}
use native.Mathlib.Omega.{arith}
use Rattle.spec.specs.Words.{words_of}
use Rattle.consistency.specs.Classes.{table_in, holds_keys}
use Rattle.faults.proofs.Adding.{visited-out, visited-below, visited-wrong, visited-top}
use Rattle.faults.proofs.top.visit.Goals as goal

pub returns-then-not-holds : goal.returns-then-not-holds
returns-then-not-holds c =
    let a = c.args in
    visited-out a.size a.count (words_of a.image.now) (table_in a.known) (holds_keys a.known) a.classes.low a.classes.high a.e (sym c.holds.ensures ∙ c.if-not-holds.true) a.so a.units.now

pub returns-then-e-top : goal.returns-then-e-top
returns-then-e-top c =
    let a = c.args in
    visited-below a.size a.count (words_of a.image.now) (table_in a.known) (holds_keys a.known) a.classes.low a.classes.high a.e
    (sym c.holds.ensures ∙ c.if-not-holds.false) c.top_of-top.result c.top_of-top.ensures a.so a.units.now (omega arith)

pub returns-then-not-block_fine : goal.returns-then-not-block_fine
returns-then-not-block_fine c =
    let a = c.args in
    visited-wrong a.size a.count (words_of a.image.now) (table_in a.known) (holds_keys a.known) a.classes.low a.classes.high a.e
    (sym c.holds.ensures ∙ c.if-not-holds.false) c.top_of-top.result c.top_of-top.ensures a.so a.units.now (omega arith)
    (sym c.block_fine.ensures ∙ c.if-not-block_fine.true) c.least.result c.least.ensures

pub returns : goal.returns
returns c =
    let a = c.args in
    visited-top a.size a.count (words_of a.image.now) (table_in a.known) (holds_keys a.known) a.classes.low a.classes.high a.e
    (sym c.holds.ensures ∙ c.if-not-holds.false) c.top_of-top.result c.top_of-top.ensures a.so a.units.now (omega arith)
    (sym c.block_fine.ensures ∙ c.if-not-block_fine.false) c.compared-odd.result c.shared.result _ c.compared-odd.ensures c.shared.ensures
