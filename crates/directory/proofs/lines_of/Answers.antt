-- `directory::lines_of` meets its contract.
-- Assumes nothing.
use mathlib.Core.Path.{sym}
use Rattle.spec.specs.Words.{words_of}
use Rattle.directory.proofs.Roles.{lines-found}
use Rattle.directory.proofs.lines_of.Goals as goal

pub returns : goal.returns
returns c =
    let a = c.args in
    rw c.lines_in.ensures (lines-found a.size (words_of a.image.now) a.c _ (sym c.role_at.ensures))
