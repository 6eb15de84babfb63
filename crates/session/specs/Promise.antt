-- THE PROMISE of every call on the station record: `Called` of the rules for this record. Every core and every public
-- call cites it.
-- Assumes nothing.
use Rattle.std.specs.Prelude.{List, ℕ}
use Rattle.spec.specs.Machine.{Call}
use Rattle.spec.specs.Contract.{Called}
use Rattle.spec.specs.declared.Report.{Report}
use Rattle.session.specs.declared.Control.{Control}
use Rattle.session.specs.declared.Setup.{Setup}
use Rattle.session.specs.declared.Session.{Session}
use Rattle.session.specs.State.{state_of}
use Rattle.session.specs.Fits.{Proper, Fits}

-- THE MEMORY that a call is lent: the station record, the image's bytes and the key table's words
pub record Memory : Type 0 where
  pub session : Session
  pub image : List ℕ
  pub table : List ℕ

abbrev pub memory : Session → (image table : List ℕ) → Memory
memory s image table = record { session = s; image = image; table = table }

-- the same of a core, which has the record by its parts
abbrev pub memory_of : Control → Setup → (buffer image table : List ℕ) → Memory
memory_of control setup buffer image table = memory (record { control = control; setup = setup; buffer = buffer }) image table

-- the call k: memory before and after, and the report
abbrev pub Does : Call → (m m' : Memory) → Report → Type 0
Does k m m' r = Called Proper state_of Fits k m.session m'.session m.image m'.image m.table m'.table r
