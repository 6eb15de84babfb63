-- `logs::fill_right` meets its contract: only a value in the log that ends within a word has a fill to look at.
-- Assumes nothing.
use Prim.Native.Nat.{◌+◌, ◌/◌}
use mathlib.Core.Path.{◌≡◌}
use native.Mathlib.Omega.{arith}
use Rattle.logs.proofs.Shifts.{fill-last}
use Rattle.logs.proofs.fill_right.Goals as goal

pub returns-else-odd-eq0 : goal.returns-else-odd-eq0
returns-else-odd-eq0 g c =
    let a = c.args in
    let e : a.placement ≡ 0 = omega arith in
    let w : a.words ≡ (a.field + 7) / 8 = rw e at c.requires.size in
    rw (c.word.ensures, e) (fill-last a.field a.at a.words (g.W.WordList.list a.list) (omega arith) w)
