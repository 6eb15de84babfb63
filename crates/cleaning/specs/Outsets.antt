-- What the begin of a cleaning does to the record, and what it answers.
-- Assumes nothing.
use Rattle.std.specs.Prelude.{◌≡◌, ◌⊎◌, List, [], ℕ, min, length}
use Rattle.spec.specs.Words.{words_of}
use Rattle.spec.specs.Places.{chunks_in}
use Rattle.spec.specs.Log.{Entry}
use Rattle.spec.specs.Plans.{Refuse, plan_clean}
use Rattle.spec.specs.Machine.{Clean, refusals}
use Rattle.spec.specs.Contract.{MemRefusal}
use Rattle.buffer.specs.Areas.{second_start, buffer_words}
use Rattle.session.specs.declared.Control.{Control}
use Rattle.session.specs.declared.Setup.{Setup}
use Rattle.spec.specs.declared.Refusal.{Refusal}
use Rattle.spec.specs.declared.Report.{Report}
use Rattle.spec.specs.declared.Report.TheVariants as R
use Rattle.session.specs.Fits.{RestFits}
use Rattle.gathering.specs.Gathering.{Copied}
use Rattle.session.specs.declared.Source.{Source}
use Rattle.session.specs.State.{power_in, clean_actions}
use Rattle.actions.specs.Record.{cleaning}
use Rattle.cleaning.specs.Begun.{Begun}

-- the kept words are stored in the record's buffer, if there are any
abbrev pub KeptStored : (f : Source) (kept b b' : List ℕ) → Type 0
KeptStored f kept b b' = ((f.words ≡ 0) × (b' ≡ b)) ⊎ ((f.words ≡ 0 → ⊥) × (length b ≡ buffer_words) × (n : ℕ) × (n ≡ min f.words (length kept)) × Copied kept b b' 0 second_start n)

-- turned down: nothing is changed, and the number is one of the call's
pub record Turned (c c' : Control) (k k' : Setup) (b b' image table : List ℕ) (s : ℕ) (r : Report) : Type 0 where
  pub number : Refusal
  pub report : r ≡ R.Refused number
  pub listed : MemRefusal number (refusals (Clean 0))
  pub control : c' ≡ c
  pub setup : k' ≡ k
  pub buffer : b' ≡ b
  pub right : k.image ≡ length image → (items : List Entry) (q : RestFits (record { control = c; setup = k; buffer = b }) (words_of image) table items)
      → plan_clean (power_in k) (chunks_in (power_in k) k.image) (words_of image) q.entries items s ≡ Refuse number

-- begun: of any memory the count is that of the record's actions
pub record Set (c c' : Control) (k k' : Setup) (b b' image table : List ℕ) (s : ℕ) (r : Report) : Type 0 where
  pub actions : ℕ
  pub report : r ≡ R.Begun actions
  pub count : actions ≡ length (clean_actions k' k'.source b')
  pub control : c' ≡ cleaning c
  pub power-same : k'.power ≡ k.power
  pub image-same : k'.image ≡ k.image
  pub table_same : k'.table ≡ k.table
  pub kept : length b' ≡ length b
  pub right : k.image ≡ length image → (items : List Entry) (q : RestFits (record { control = c; setup = k; buffer = b }) (words_of image) table items)
      → (items ≡ []) × Begun c k' k'.source b' (words_of image) table q.entries (chunks_in (power_in k) k.image) s actions

abbrev pub Outsets : (c c' : Control) (k k' : Setup) (b b' image table : List ℕ) (s : ℕ) (r : Report) → Type 0
Outsets c c' k k' b b' image table s r = Turned c c' k k' b b' image table s r ⊎ Set c c' k k' b b' image table s r
