-- DEMAND 3 of the archive level, and so of every level: every list of calls and power cuts, choosings and cleanings and
-- values up to the largest block's included, for the very contracts that the public functions ensure.
-- And NEVER STUCK of the same contracts, by the host's rule that no commit is begun while no chunk is free.
-- Assumes nothing.
use Rattle.spec.specs.Contract.{Ends, PastImage}
use Rattle.spec.specs.History.{Demand3}
use Rattle.spec.specs.Unstuck.{NeverStuck}
use Rattle.session.specs.State.{state_of}
use Rattle.session.specs.Fits.{Fits, Proper}
use Rattle.theory_histories.proofs.Every.{every-list, every-room}
use Rattle.theory_histories.proofs.Ends.{ends}
use Rattle.theory_histories.proofs.PastImage.{past-image}

pub faithful : Demand3 Proper state_of Fits
faithful = every-list Proper state_of Fits

pub never_stuck : NeverStuck Proper state_of Fits
never_stuck = every-room Proper state_of Fits

-- of the same contracts, whatever memory holds: every begun call ends after its count, and a store or flush past the
-- image changes nothing
pub ends-after-count : Ends Proper state_of Fits
ends-after-count = ends Proper state_of Fits

pub past-changes-nothing : PastImage Proper state_of Fits
past-changes-nothing = past-image Proper state_of Fits
