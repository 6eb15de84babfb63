-- `apply::join::release_at` meets its contract.
-- Assumes nothing.
use Rattle.spec.specs.Words.{words_of}
use Rattle.apply.proofs.Freeing.{at-padding, at-wrong, at_entry}
use Rattle.apply.proofs.join.release_at.Goals as goal

pub returns-in-Padding : goal.returns-in-Padding
returns-in-Padding c =
    let a = c.args in
    at-padding a.size (words_of a.image.now) a.place _ _ c.load.ensures
    c.first_of.ensures _ c.told-buffer c.in-Padding.is

pub returns-in-Wrong : goal.returns-in-Wrong
returns-in-Wrong c =
    let a = c.args in
    at-wrong a.size (words_of a.image.now) a.place _ _ c.load.ensures
    c.first_of.ensures _ c.told-buffer c.in-Wrong.is

pub returns-in-Entry : goal.returns-in-Entry
returns-in-Entry c =
    let a = c.args in
    at_entry a.size (words_of a.image.now) a.place _ _ c.load.ensures c.first_of.ensures _ _ _ _
    _ _ c.in-Entry.is c.release.ensures
