-- `faults::top::spots_by` meets its contract: its words are zeros.
-- Assumes nothing.
use Prim.Native.Nat.{ℕ}
use native.Mathlib.Omega.{arith}
use lib.ListN.{length-replicate}
use Rattle.index.proofs.Laws.{zeros-at}
use Rattle.faults.proofs.top.spots_by.Goals as goal

pub spots_with-requires : goal.spots_with-requires
spots_with-requires g c =
    record { long = let l = length-replicate {A = ℕ} g.row.UNITS 0 in omega (arith, l); zero = zeros-at g.row.UNITS }
