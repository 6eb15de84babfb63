-- A ZEROED RECORD is closed, and fits whatever image and table are lent beside it: hosts make their record by zeroing
-- it.
-- Assumes nothing.
use mathlib.Core.Path.{◌≡◌, refl}
use mathlib.Core.List.{List}
use Prim.Native.Nat.{ℕ}
use lib.ListN.{replicate, length-replicate}
use Rattle.spec.specs.Machine.{Closed}
use Rattle.session.specs.declared.Session.{Session}
use Rattle.session.specs.State.{no_source, state_at, state_of}
use Rattle.buffer.specs.Areas.{buffer_words}
use Rattle.session.specs.Fits.{Fits}
use Rattle.session.specs.Numbers.{closed}

abbrev pub zeroed : Session
zeroed = record {
  control = closed;
  setup = record { image = 0; table = 0; power = 0; chunk = 0; old = 0; lines = 0; first = 0; least = 0; fields = 0; station = 0; centre = 0; source = no_source };
  buffer = replicate buffer_words 0;
}

pub zeroed-closed : state_of zeroed ≡ Closed
unfolding state_at
zeroed-closed = refl

pub zeroed-fits : (ws table : List ℕ) → Fits zeroed ws table
unfolding state_at
zeroed-fits ws table = (length-replicate {A = ℕ} buffer_words 0, tt)
