-- `directory::directory_fits` meets its contract.
-- Assumes nothing.
use Rattle.std.proofs.Common.{sym, ◌∙◌, ap, not}
use Rattle.std.proofs.Math.Bool.{not-not}
use Rattle.std.specs.Prelude.{is_none}
use Rattle.directory.proofs.Tests.{directory-tested}
use Rattle.directory.proofs.directory_fits.Goals as goal

pub returns : goal.returns
returns c = let a = c.args in sym (not-not _) ∙ ap not (sym c.is_none.ensures) ∙ ap is_none c.directory_fault.ensures ∙ sym (directory-tested _ _ _)
