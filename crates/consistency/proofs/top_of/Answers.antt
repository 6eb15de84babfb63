-- `consistency::top_of` meets its contract: by the table where it is known to hold the keys, else by the scan.
-- Assumes nothing.
use mathlib.Core.Path.{refl}
use Rattle.spec.specs.Words.{words_of}
use Rattle.consistency.proofs.Found.{shows-table, shows-scan}
use Rattle.consistency.proofs.top_of.Goals as goal

pub returns-in-Some : goal.returns-in-Some
returns-in-Some c =
    let a = c.args in
    rw c.in-Some.is (shows-table a.size a.count (words_of a.image.now) _ _ a.key refl c.get.result c.unpack-info.result c.get.ensures c.unpack-info.ensures)

pub returns-in-None : goal.returns-in-None
returns-in-None c =
    let a = c.args in
    rw c.in-None.is (shows-scan a.size a.count (words_of a.image.now) _ _ a.key c.best_of.result c.best_of.ensures)
