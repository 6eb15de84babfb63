-- `printing::image_text` meets its contract.
-- Assumes nothing.
use Rattle.std.proofs.Common.{ℕ}
use lib.ListN.{length-replicate}
use Rattle.printing.proofs.Prints.{program-text}
use Rattle.printing.proofs.image_text.Goals as goal

pub returns : goal.returns
returns g c =
    program-text _ _ _ _ _ _ (rw (c.requires.room, c.requires.empty) at c.list_image.ensures) (length-replicate {A = ℕ} _ 0) (length-replicate {A = ℕ} _ 0) (length-replicate {A = ℕ} _ 0)
