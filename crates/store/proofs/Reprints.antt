-- REQUEST 3, of the very contracts that the public functions ensure: what look-up answers while a staging, a commit or
-- a cleaning is unfinished, and that a power cut there may leave the register that it shows.
-- Assumes nothing.
use Rattle.spec.specs.Reprint.{Reprinted, AlwaysACut}
use Rattle.session.specs.State.{state_of}
use Rattle.session.specs.Fits.{Fits, Proper}
use Rattle.theory_histories.proofs.Every.{every-reprint, every-cut-shown}

pub reprints : Reprinted Proper state_of Fits
reprints = every-reprint Proper state_of Fits

pub shows-a-cut : AlwaysACut Proper state_of Fits
shows-a-cut = every-cut-shown Proper state_of Fits
