-- The laws of the calls hold, for chunks of 2^12 to 2^16 bytes.
-- Assumes nothing.
use Prim.Native.Nat.{ℕ, ◌≤◌}
use Rattle.theory_plans.specs.Laws.{Laws}
use Rattle.theory_plans.proofs.Between as B
use Rattle.theory_plans.proofs.Looking as L
use Rattle.theory_plans.proofs.Reading as G
use Rattle.theory_plans.proofs.Formatted as F
use Rattle.theory_plans.proofs.Staging as S
use Rattle.theory_plans.proofs.Committing as C
use Rattle.theory_plans.proofs.Cleaning as D

pub laws-hold : (p : ℕ) → 12 ≤ p → p ≤ 16 → Laws p
laws-hold p lo hi = record {
  put-goes = S.put-goes p lo hi;
  delete-goes = S.delete-goes p lo hi;
  commit-goes = C.commit-goes p lo hi;
  clean-goes = D.clean-goes p lo hi;
  abandon-stands = B.abandon-stands p lo hi;
  stand-cuts = B.stand-cuts p lo hi;
  cut_stands = B.cut_stands p lo hi;
  larger-table = B.larger-table p lo hi;
  stand-length = B.stand-length p lo hi;
  stand-power = B.stand-power p lo hi;
  open-takes = B.open-takes p lo hi;
  taken-stands = B.taken-stands p lo hi;
  open-accepts = B.open-accepts p lo hi;
  accepted-stands = B.accepted-stands p lo hi;
  look-shows = L.look-shows p lo hi;
  put_reads = S.put_reads p lo hi;
  delete-reads = S.delete-reads p lo hi;
  commit-reads = C.commit-reads p lo hi;
  clean-reads = D.clean-reads p lo hi;
  reading-shows = G.reading-shows p lo hi;
  reading-same = G.reading-same p lo hi;
  format-stands = F.format-stands p lo hi;
}
