-- What a step of a cleaning does to record, image and key table.
-- Assumes nothing.
use Rattle.std.specs.Prelude.{◌≡◌, ◌⊎◌, List, [], ℕ, ◌+◌, ◌≤◌, ◌<◌, length, drop}
use Rattle.spec.specs.Places.{chunks_in}
use Rattle.spec.specs.Words.{words_of}
use Rattle.spec.specs.Contract.{Changed}
use Rattle.spec.specs.Plans.{Olds}
use Rattle.session.specs.declared.Control.{Control}
use Rattle.session.specs.declared.Setup.{Setup}
use Rattle.spec.specs.declared.Report.{Report}
use Rattle.spec.specs.declared.Report.TheVariants as R
use Rattle.session.specs.Fits.{RestFits, CleanFits, Reads}
use Rattle.actions.specs.Nth.{nth_report}
use Rattle.apply.specs.Passes.{Emptying}
use Rattle.session.specs.declared.Source.{Source}
use Rattle.session.specs.State.{size_in, power_in, clean_actions}
use Rattle.actions.specs.Record.{clean_count}
use Rattle.stepping.specs.Ends.{Ends, acted}
use Rattle.session.specs.Numbers.{ended_empty}

-- the chunk's entries left key table and bits, found where the record says
pub record ChunkLeft (k : Setup) (f : Source) (ws b b' table table' : List ℕ) (keys keys' : ℕ) : Type 0 where
  pub at : ℕ
  pub end : ℕ
  pub from : ℕ
  pub until : ℕ
  pub ends : Ends k f at end from until
  pub empties : Emptying (size_in k) (chunks_in (power_in k) k.image) ws b b' table table' keys at end from until f.words keys'

-- AN ACTION: of any memory its report, the image's change, and that the actions behind it stay; and memory stays as the
-- calls left it
pub record Acts (c c' : Control) (k : Setup) (f : Source) (b b' image image' table table' : List ℕ) (r : Report) : Type 0 where
  pub here : c.next < clean_count f.words
  pub report : r ≡ nth_report (clean_actions k f b) c.next
  pub changed : Changed r image image'
  pub control : c' ≡ acted c c'.keys
  pub behind : drop (c.next + 1) (clean_actions k f b') ≡ drop (c.next + 1) (clean_actions k f b)
  pub sized : length table' ≡ length table
  pub kept : length b' ≡ length b
  pub fits : CleanFits c k f b (words_of image) table (drop c.next (clean_actions k f b)) → CleanFits c' k f b' (words_of image') table' (drop (c.next + 1) (clean_actions k f b'))
  pub reads : (olds : Olds) → Reads (record { control = c; setup = k; buffer = b }) olds (drop c.next (clean_actions k f b)) (words_of image) table
      → Reads (record { control = c'; setup = k; buffer = b' }) olds (drop (c.next + 1) (clean_actions k f b')) (words_of image') table'

-- THE END
pub record Over (c c' : Control) (k : Setup) (f : Source) (b b' image image' table table' : List ℕ) (r : Report) : Type 0 where
  pub past : clean_count f.words ≤ c.next
  pub report : r ≡ R.End f.entries
  pub control : c' ≡ ended_empty c
  pub buffer : b' ≡ b
  pub unchanged : image' ≡ image
  pub same : table' ≡ table
  pub fits : CleanFits c k f b (words_of image) table (drop c.next (clean_actions k f b)) → RestFits (record { control = c'; setup = k; buffer = b' }) (words_of image') table' []

abbrev pub CleanStepped : (c c' : Control) (k : Setup) (f : Source) (b b' image image' table table' : List ℕ) (r : Report) → Type 0
CleanStepped c c' k f b b' image image' table table' r = Acts c c' k f b b' image image' table table' r ⊎ Over c c' k f b b' image image' table table' r
