-- What a commit finds before it is begun, and the record at its begin.
-- Assumes nothing.
use Rattle.std.specs.Prelude.{List, ℕ, length, Result, Ok, Err}
use Rattle.spec.specs.Words.{words_of}
use Rattle.spec.specs.Places.{chunks_in}
use Rattle.spec.specs.Log.{Entry, encode_all}
use Rattle.spec.specs.Actions.{lines_for}
use Rattle.spec.specs.Plans.{free_needed}
use Rattle.spec.specs.Machine.{Commit}
use Rattle.session.specs.declared.Control.{Control}
use Rattle.session.specs.declared.Setup.{Setup}
use Rattle.spec.specs.declared.Refusal.{Refusal}
use Rattle.spec.specs.declared.Report.TheVariants as R
use Rattle.session.specs.Fits.{Hint}
use Rattle.batch.specs.Items.{StagedIn}
use Rattle.placing.specs.declared.lines.Placed.{Placed}
use Rattle.placing.specs.Found.{Searched}
use Rattle.committing.specs.declared.CommitPlan.{CommitPlan}
use Rattle.session.specs.Promise.{Does, memory_of}
use Rattle.session.specs.Numbers.{in_phase, append_setup}

-- the place that the definition finds for the staged items, where the hint holds
abbrev pub PlaceFor : (p : ℕ) (buffer : List ℕ) (words : ℕ) (image : List ℕ) (first least : ℕ) → Placed → Type 0
PlaceFor p buffer words image first least r =
    (items : List Entry) → StagedIn buffer words items → Hint p (chunks_in p (length image)) (words_of image) first least
    → Searched p (words_of image) (chunks_in p (length image)) (lines_for (length (encode_all items))) (free_needed items) r

-- the record's small parts at a commit's begin: no action done yet, where it writes, and where the next one looks for
-- space
abbrev pub committing : Control → Control
committing c = in_phase 3 0 c

abbrev pub writing_to : Setup → (chunk old lines first least : ℕ) → Setup
writing_to k chunk old lines first least =
    append_setup k chunk old lines first least k.source

-- a plan is right if the call that follows it does what it promises
abbrev pub CommitPlanned : Control → Setup → (buffer image table : List ℕ) → Result CommitPlan Refusal → Type 0
CommitPlanned c k b image table (Err n) =
    Does Commit (memory_of c k b image table) (memory_of c k b image table) (R.Refused n)
CommitPlanned c k b image table (Ok p) =
    Does Commit (memory_of c k b image table) (memory_of (committing c) (writing_to k p.chunk p.old p.lines p.first p.least) b image table) (R.Begun p.actions)
