-- REQUEST 4, of the very contracts that the public functions ensure: a cleaning's actions and its count are fixed at
-- its begin, whatever image and key table of the same lengths are lent to its steps.
-- Assumes nothing.
use Rattle.spec.specs.Fixed.{Fixed}
use Rattle.session.specs.State.{state_of}
use Rattle.session.specs.Fits.{Fits}
use Rattle.theory_histories.proofs.Fixed.{fixed}
use Rattle.session.specs.Fits.{Proper}

pub one-reading : Fixed Proper state_of Fits
one-reading = fixed Proper state_of Fits
