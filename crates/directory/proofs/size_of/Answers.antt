-- `directory::size_of` meets its contract.
-- Assumes nothing.
use mathlib.Core.Path.{sym}
use Rattle.spec.specs.Words.{words_of}
use Rattle.directory.proofs.Roles.{size-found}
use Rattle.directory.proofs.size_of.Goals as goal

pub returns : goal.returns
returns c =
    let a = c.args in
    rw c.size_in.ensures (size-found a.size (words_of a.image.now) a.c _ (sym c.role_at.ensures))
