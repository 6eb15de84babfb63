-- `printing::list_image` meets its contract.
-- Assumes nothing.
use Rattle.printing.proofs.Prints.{image-refused, image-opened}
use Rattle.printing.proofs.list_image.Goals as goal

pub returns-in-Refused : goal.returns-in-Refused
returns-in-Refused g c = image-refused _ _ _ _ _ _ _ _ _ _ _ _ _ _ _ c.open_core-opened.ensures _ c.in-Refused.is c.put_refusal.ensures

pub returns-in_default : goal.returns-in_default
returns-in_default g c = image-opened _ _ _ _ _ _ _ _ _ _ _ _ _ _ _ c.open_core-opened.ensures c.in_default.not-Refused c.put_register.ensures
