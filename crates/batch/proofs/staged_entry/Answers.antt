-- `batch::staged_entry` meets its contract.
-- Assumes nothing.
use mathlib.Core.Logic.{⊎_elim}
use Rattle.batch.proofs.Staged.{staged-end, staged-padding, staged-wrong, staged-long, staged-entry}
use Rattle.batch.proofs.staged_entry.Goals as goal

pub returns-then-end-at : goal.returns-then-end-at
returns-then-end-at c = staged-end _ _ _ c.if-end-at.true

pub returns-then-end-at-2 : goal.returns-then-end-at-2
returns-then-end-at-2 c =
    let a = c.args in
    staged-long a.buffer.now a.at a.end _ c.first_of.ensures _ _ _ _ _
    c.in-Entry.is c.words_for-words.ensures.0 c.if-end-at-2.true

pub returns-in-Padding : goal.returns-in-Padding
returns-in-Padding c =
    let a = c.args in
    ⊎_elim (staged-padding a.buffer.now a.at a.end _ c.first_of.ensures) (staged-wrong a.buffer.now a.at a.end _ c.first_of.ensures) c.in-Padding.is

pub returns-else-end-at-2 : goal.returns-else-end-at-2
returns-else-end-at-2 c =
    let a = c.args in
    staged-entry a.buffer.now a.at a.end _ c.first_of.ensures _ _ _ _ _
    c.in-Entry.is c.words_for-words.ensures.0 c.if-end-at.false c.if-end-at-2.false
