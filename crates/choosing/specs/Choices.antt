-- What choosing answers, for any memory and on memory as the calls left it.
-- Assumes nothing.
use Rattle.std.specs.Prelude.{◌≡◌, ◌⊎◌, Bool, List, ℕ, ◌≤◌, ◌<◌, length, Option, Some, None}
use Rattle.std.proofs.Math.Option as maybe
use Rattle.std.proofs.Math.Option.{none, some}
use Rattle.spec.specs.declared.Size.{Size}
use Rattle.places.specs.Sizes.{power_of}
use Rattle.spec.specs.Basics.{pick}
use Rattle.spec.specs.Places.{chunks_in}
use Rattle.spec.specs.Directory.{lines_of}
use Rattle.spec.specs.Log.{Entry}
use Rattle.spec.specs.Plans.{copy_words, worth_cleaning, is_better, better, chosen_chunk}
use Rattle.spec.specs.Machine.{Choose}
use Rattle.session.specs.declared.Control.{Control}
use Rattle.session.specs.declared.Setup.{Setup}
use Rattle.spec.specs.declared.Refusal.TheVariants as N
use Rattle.spec.specs.declared.Report.{Report}
use Rattle.spec.specs.declared.Report.TheVariants as R
use Rattle.theory_crash.specs.Accepted.{Ok}
use Rattle.volatile.specs.Known.{Indexed}
use Rattle.volatile.specs.Sums.{Summed}
use Rattle.lookup.specs.Look.{session_of}
use Rattle.choosing.specs.declared.Candidate.{Candidate}
use Rattle.session.specs.State.{power_in}
use Rattle.session.specs.Promise.{Does, memory}

-- ONE CHUNK: what is said of it is so of an image with these words and entries
pub record Describes (size : Size) (ws : List ℕ) (es : List Entry) (x : Candidate) : Type 0 where
  pub lines : x.lines ≡ lines_of (power_of size) ws x.chunk
  pub words : x.words ≡ copy_words (power_of size) es x.chunk

pub record Weighed (size : Size) (ws table : List ℕ) (c : ℕ) (x : Candidate) : Type 0 where
  pub chunk : x.chunk ≡ c
  pub describes : (n keys : ℕ) (es : List Entry) → Ok (power_of size) n ws es → Indexed size table keys es → 1 ≤ c → c < n → Describes size ws es x

-- the same of a chunk of whose words another knows
pub record Counted (size : Size) (ws : List ℕ) (c w : ℕ) (x : Candidate) : Type 0 where
  pub chunk : x.chunk ≡ c
  pub lines : x.lines ≡ lines_of (power_of size) ws c
  pub words : x.words ≡ w

pub record Worth (x : Candidate) (r : Bool) : Type 0 where
  pub says : (size : Size) (ws : List ℕ) (es : List Entry) → Describes size ws es x → r ≡ worth_cleaning (power_of size) ws es x.chunk

-- TWO CHUNKS
pub record Compared (x y : Candidate) (r : Bool) : Type 0 where
  pub says : (size : Size) (ws : List ℕ) (es : List Entry) → Describes size ws es x → Describes size ws es y → r ≡ is_better (power_of size) ws es x.chunk y.chunk

-- the best so far, if there is one
abbrev pub best_so_far : Option Candidate → maybe.Option ℕ
best_so_far None = none
best_so_far (Some x) = some x.chunk

abbrev pub Known : (size : Size) → (ws : List ℕ) (es : List Entry) → Option Candidate → Type 0
Known size ws es None = Unit {0}
Known size ws es (Some x) = Describes size ws es x

pub record Bettered (x : Option Candidate) (y : Candidate) (z : Option Candidate) : Type 0 where
  pub either : (z ≡ x) ⊎ (z ≡ Some y)
  pub says : (size : Size) (ws : List ℕ) (es : List Entry) → Known size ws es x → Describes size ws es y
      → best_so_far z ≡ pick (worth_cleaning (power_of size) ws es y.chunk) (better (power_of size) ws es (best_so_far x) y.chunk) (best_so_far x)

-- the best so far and chunk c, on memory as the calls left it
pub record BetteredAt (size : Size) (ws table buffer : List ℕ) (x : Option Candidate) (c : ℕ) (z : Option Candidate) : Type 0 where
  pub either : (z ≡ x) ⊎ ((y : Candidate) × (z ≡ Some y) × (y.chunk ≡ c))
  pub says : (n keys : ℕ) (es : List Entry) → Ok (power_of size) n ws es → Indexed size table keys es → Summed size buffer es → 1 ≤ c → c < n → Known size ws es x
      → Known size ws es z × (best_so_far z ≡ pick (worth_cleaning (power_of size) ws es c) (better (power_of size) ws es (best_so_far x) c) (best_so_far x))

-- ALL CHUNKS, of an image of n: of any memory a chunk from 1 on and below n, or none
abbrev pub choice_of : maybe.Option ℕ → Option ℕ
choice_of none = None
choice_of (some c) = Some c

abbrev pub InCount : ℕ → Option ℕ → Type 0
InCount n (Some c) = (1 ≤ c) × (c < n)
InCount n None = Unit {0}

pub record Chooses (size : Size) (ws table buffer : List ℕ) (n : ℕ) (r : Option ℕ) : Type 0 where
  pub inside : InCount n r
  pub exact : (keys : ℕ) (es : List Entry) → Ok (power_of size) n ws es → Indexed size table keys es → Summed size buffer es → r ≡ choice_of (chosen_chunk (power_of size) n ws es)

-- THE CALL: record, image and table stay. Of any memory it answers a refusal, or a chunk of
-- the lent image.
abbrev pub report_of : Option ℕ → Report
report_of (Some c) = R.Chosen c
report_of None = R.Refused N.NotCleanable

abbrev pub ChosenIn : ℕ → Report → Type 0
ChosenIn n (R.Refused x) = Unit {0}
ChosenIn n (R.Begun a) = ⊥
ChosenIn n (R.Store w v) = ⊥
ChosenIn n (R.Flush l) = ⊥
ChosenIn n R.Fence = ⊥
ChosenIn n (R.End m) = ⊥
ChosenIn n R.Idle = ⊥
ChosenIn n R.Opened = ⊥
ChosenIn n R.Abandoned = ⊥
ChosenIn n (R.Chosen c) = (1 ≤ c) × (c < n)
ChosenIn n (R.Part a m v) = ⊥

pub record Choosing (c : Control) (k : Setup) (b bytes table : List ℕ) (r : Report) : Type 0 where
  pub called : Does Choose (memory (session_of c k b) bytes table) (memory (session_of c k b) bytes table) r
  pub inside : ChosenIn (chunks_in (power_in k) (length bytes)) r
