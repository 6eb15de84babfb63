-- What a look-up answers, for any memory and on memory as our calls left it.
-- Assumes nothing.
use Rattle.std.specs.Prelude.{◌≡◌, List, ℕ, ◌+◌, ◌*◌, ◌/◌, ◌%◌, ◌≤◌, eqb, leb, length, get_or, Result, Ok, Err, MatchResult}
use Rattle.spec.specs.Basics.{pick}
use Rattle.spec.specs.Words.{words_of}
use Rattle.spec.specs.Places.{unit_word}
use Rattle.spec.specs.Log.{Entry}
use Rattle.spec.specs.Reports.{number}
use Rattle.spec.specs.Plans.{max_version, look_up}
use Rattle.spec.specs.Machine.{LookUp}
use Rattle.spec.specs.Contract.{part_bytes}
use Rattle.session.specs.declared.Control.{Control}
use Rattle.session.specs.declared.Setup.{Setup}
use Rattle.session.specs.declared.Session.{Session}
use Rattle.spec.specs.declared.Size.{Size}
use Rattle.spec.specs.declared.Refusal.{Refusal}
use Rattle.spec.specs.declared.Refusal.TheVariants as N
use Rattle.spec.specs.declared.Report.{Report}
use Rattle.spec.specs.declared.Report.TheVariants as R
use Rattle.places.specs.Sizes.{power_of}
use Rattle.theory_base.proofs.PutBack.{Past}
use Rattle.theory_crash.specs.Accepted.{Ok as Accepted}
use Rattle.volatile.specs.Known.{Indexed}
use Rattle.lookup.specs.declared.Part.{Part}
use Rattle.lookup.specs.declared.Value.{Value}
use Rattle.session.specs.Promise.{Does, memory}

-- WHAT A LOOK-UP FINDS: a part, from byte a, of n bytes; or a refusal
abbrev pub Located : Type 0
Located = Result Part Refusal

abbrev pub part : (a n version : ℕ) → Located
part a n version = Ok (record { start = a; length = n; version = version })

abbrev pub report_of : Located → Report
report_of (Ok x) = R.Part x.start x.length x.version
report_of (Err n) = R.Refused n

-- the part from byte a, of n bytes, where an image of so many bytes has it
abbrev pub within : (version bytes a n : ℕ) → Located
within version bytes a n = pick (leb (a + n) bytes) (part a n version) (Err N.KeyAbsent)

-- the part that holds the value of the block at a unit: its length is the block's first word
abbrev pub block_part : (version bytes : ℕ) → List ℕ → ℕ → Located
block_part version bytes ws unit = within version bytes (8 * (unit_word unit + 1)) (get_or ws (unit_word unit) 0)

-- the part that holds the value of the entry at word `place`, whose first word is w: a put with its value in the log,
-- or in a block
abbrev pub part_by : (version bytes : ℕ) → List ℕ → ℕ → ℕ → Located
part_by version bytes ws place w =
    pick (eqb (w % 16) 1) (within version bytes (8 * (place + 2)) (w / 16777216))
    (pick (eqb (w % 16) 5) (block_part version bytes ws (w / 16777216)) (Err N.KeyAbsent))

-- that first word, 0 where an image of so many bytes does not have the entry's first two words
abbrev pub first_word : ℕ → List ℕ → ℕ → ℕ
first_word bytes ws place = pick (leb (8 * (place + 2)) bytes) (get_or ws place 0) 0

abbrev pub part_at : (version bytes : ℕ) → List ℕ → ℕ → Located
part_at version bytes ws place = part_by version bytes ws place (first_word bytes ws place)

-- 11, or a part of an image of so many bytes, with a version that an entry can have
abbrev pub PartIn : ℕ → Located → Type 0
PartIn bytes (Ok x) = (x.start + x.length ≤ bytes) × (x.version ≤ max_version)
PartIn bytes (Err n) = n ≡ N.KeyAbsent

-- behind the gate: for any memory, and with the table of an accepted image, whose words the image's bytes have but for
-- the directory
pub record Looking (size : Size) (key : ℕ) (bytes table : List ℕ) (r : Located) : Type 0 where
  pub inside : PartIn (length bytes) r
  pub exact : (n keys : ℕ) (vs : List ℕ) (es : List Entry) → Accepted (power_of size) n vs es → Past (words_of bytes) vs → Indexed size table keys es → report_of r ≡ look_up vs es key

-- a part that is answered lies in the image
abbrev pub InImage : ℕ → Located → Type 0
InImage bytes (Ok x) = x.start + x.length ≤ bytes
InImage bytes (Err n) = Unit {0}

abbrev pub session_of : Control → Setup → List ℕ → Session
session_of c k b = record { control = c; setup = k; buffer = b }

-- THE CALL, whatever the buffer holds: record, image and table stay
abbrev pub LookedUp : Control → Setup → ℕ → List ℕ → List ℕ → Report → Type 0
LookedUp c k key bytes table r = (b : List ℕ) → Does (LookUp key) (memory (session_of c k b) bytes table) (memory (session_of c k b) bytes table) r

pub record Locating (c : Control) (k : Setup) (key : ℕ) (bytes table : List ℕ) (r : Located) : Type 0 where
  pub called : LookedUp c k key bytes table (report_of r)
  pub inside : InImage (length bytes) r

-- the call with its report: for any memory a refusal or a part of the image
pub record Reporting (c : Control) (k : Setup) (key : ℕ) (bytes table : List ℕ) (r : Report) : Type 0 where
  pub called : LookedUp c k key bytes table r
  pub located : Located
  pub is-report : r ≡ report_of located
  pub inside : InImage (length bytes) located

-- the call with the part itself, and 0 or the refusal's number: `located` is what it answers
abbrev pub number_of : Located → ℕ
number_of (Ok x) = 0
number_of (Err n) = number n

abbrev pub version_of : Located → ℕ
version_of (Ok x) = x.version
version_of (Err n) = 0

pub record Showing (c : Control) (k : Setup) (key : ℕ) (bytes table part : List ℕ) (answer version : ℕ) : Type 0 where
  pub located : Located
  pub called : LookedUp c k key bytes table (report_of located)
  pub inside : InImage (length bytes) located
  pub is-part : part ≡ part_bytes (report_of located) bytes
  pub is_number : answer ≡ number_of located
  pub is-version : version ≡ version_of located

-- the call with the value itself: `located` is what it answers, and the value the bytes of its part
abbrev pub Shows : List ℕ → Located → Result Value Refusal → Type 0
Shows bytes (Ok x) r = MatchResult r (λ v. (v.bytes.now ≡ part_bytes (report_of (Ok x)) bytes) × (v.version ≡ x.version)) (λ n. ⊥)
Shows bytes (Err n) r = r ≡ Err n

pub record ShowingValue (c : Control) (k : Setup) (key : ℕ) (bytes table : List ℕ) (r : Result Value Refusal) : Type 0 where
  pub located : Located
  pub called : LookedUp c k key bytes table (report_of located)
  pub inside : InImage (length bytes) located
  pub shows : Shows bytes located r
