-- DEMAND 2, and a power cut in a formatting, for the very contracts that the public functions ensure.
-- Assumes nothing.
use Rattle.spec.specs.Means.{Demand2}
use Rattle.spec.specs.FormatCut.{FormatCut, FormatCutAmong}
use Rattle.session.specs.State.{state_of}
use Rattle.session.specs.Fits.{Fits}
use Rattle.theory_histories.proofs.Every.{every-meaning, every-format-cut, every-format-cut-among}
use Rattle.session.specs.Fits.{Proper}

pub meaning-kept : Demand2 Proper state_of Fits
meaning-kept = every-meaning Proper state_of Fits

pub format-cut : FormatCut Proper state_of Fits
format-cut = every-format-cut Proper state_of Fits

pub format-cut-among : FormatCutAmong Proper state_of Fits
format-cut-among = every-format-cut-among Proper state_of Fits
