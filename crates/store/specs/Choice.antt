-- What choosing through the station record answers. The record, the image and the table are as they were.
-- Assumes nothing.
use Rattle.std.specs.Prelude.{List, ℕ, length}
use Rattle.spec.specs.Places.{chunks_in}
use Rattle.spec.specs.Machine.{Choose}
use Rattle.session.specs.declared.Session.{Session}
use Rattle.session.specs.State.{power_in}
use Rattle.spec.specs.declared.Report.{Report}
use Rattle.choosing.specs.Choices.{ChosenIn}
use Rattle.session.specs.Promise.{Does, memory}

-- the call's report, for any memory a refusal or a chunk of the lent image
pub record Chosen (s : Session) (bytes table : List ℕ) (r : Report) : Type 0 where
  pub called : Does Choose (memory s bytes table) (memory s bytes table) r
  pub inside : ChosenIn (chunks_in (power_in s.setup) (length bytes)) r
