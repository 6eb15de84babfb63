-- `formatting::format_core` meets its contract.
-- Assumes nothing.
use mathlib.Core.Path.{sym, ◌∙◌}
use Rattle.formatting.proofs.FormatShows.{number-given, allowed-by, format-length, format-unfinished, format-begun}
use Rattle.formatting.proofs.format_core.Goals as goal

pub returns-then-not-is_allowed : goal.returns-then-not-is_allowed
returns-then-not-is_allowed c =
    let a = c.args in
    let allowed = allowed-by a.control a.setup a.buffer.now a.image.now a.table.now _ _ _ c.size_by-size.ensures c.is_allowed.ensures in
    format-length _ _ _ _ _ _ _ _ (sym allowed ∙ c.if-not-is_allowed.true)

pub returns-then-is_unfinished : goal.returns-then-is_unfinished
returns-then-is_unfinished c =
    let a = c.args in
    let allowed = allowed-by a.control a.setup a.buffer.now a.image.now a.table.now _ _ _ c.size_by-size.ensures c.is_allowed.ensures in
    format-unfinished _ _ _ _ _ _ _ _ (sym allowed ∙ c.if-not-is_allowed.false) (sym c.is_unfinished.ensures ∙ c.if-is_unfinished.true)

pub returns : goal.returns
returns c =
    let a = c.args in
    let allowed = allowed-by a.control a.setup a.buffer.now a.image.now a.table.now _ _ _ c.size_by-size.ensures c.is_allowed.ensures in
    format-begun _ _ _ _ _ _ _ _ _ _ _ _ _ _ _ c.size_by-size.ensures
    c.formatting_phase.ensures c.header_map.ensures (c.unwrap_or.ensures ∙ number-given a.station)
    (c.unwrap_or-2.ensures ∙ number-given a.centre)
    c.formatting.ensures c.format_setup.ensures
    (sym allowed ∙ c.if-not-is_allowed.false)
    (sym c.is_unfinished.ensures ∙ c.if-is_unfinished.false)
