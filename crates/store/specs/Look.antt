-- What a look-up through the station record answers. The record, the image and the table are as they were.
-- Assumes nothing.
use Rattle.std.specs.Prelude.{◌≡◌, List, ℕ, length, Result}
use Rattle.spec.specs.Machine.{LookUp}
use Rattle.spec.specs.Contract.{part_bytes}
use Rattle.session.specs.declared.Session.{Session}
use Rattle.spec.specs.declared.Report.{Report}
use Rattle.spec.specs.declared.Refusal.{Refusal}
use Rattle.lookup.specs.declared.Value.{Value}
use Rattle.lookup.specs.Look.{Located, report_of, InImage, number_of, version_of, Shows}
use Rattle.session.specs.Promise.{Does, memory}

-- the call's report, for any memory a refusal or a part of the image
pub record Reported (s : Session) (key : ℕ) (bytes table : List ℕ) (r : Report) : Type 0 where
  pub called : Does (LookUp key) (memory s bytes table) (memory s bytes table) r
  pub located : Located
  pub is-report : r ≡ report_of located
  pub inside : InImage (length bytes) located

-- the part itself, 0 or the refusal's number, and the value's version or 0: `located` is what the call answers
pub record Shown (s : Session) (key : ℕ) (bytes table part : List ℕ) (answer version : ℕ) : Type 0 where
  pub located : Located
  pub called : Does (LookUp key) (memory s bytes table) (memory s bytes table) (report_of located)
  pub inside : InImage (length bytes) located
  pub is-part : part ≡ part_bytes (report_of located) bytes
  pub is_number : answer ≡ number_of located
  pub is-version : version ≡ version_of located

-- the value itself with its version, or the refusal: `located` is what the call answers
pub record ShownValue (s : Session) (key : ℕ) (bytes table : List ℕ) (r : Result Value Refusal) : Type 0 where
  pub located : Located
  pub called : Does (LookUp key) (memory s bytes table) (memory s bytes table) (report_of located)
  pub inside : InImage (length bytes) located
  pub shows : Shows bytes located r
