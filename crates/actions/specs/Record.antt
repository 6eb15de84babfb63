-- How many actions a cleaning has, by the words that it keeps, and the record at its begin.
-- Assumes nothing.
use Rattle.std.specs.Prelude.{List, ℕ, ◌+◌, ◌*◌, min, eqb, get_or}
use Rattle.spec.specs.Basics.{pick}
use Rattle.spec.specs.Places.{directory_word}
use Rattle.spec.specs.Directory.{lines_of}
use Rattle.spec.specs.Actions.{lines_for}
use Rattle.spec.specs.declared.Size.{Size}
use Rattle.places.specs.Sizes.{power_of}
use Rattle.session.specs.declared.Control.{Control}
use Rattle.session.specs.declared.Setup.{Setup}
use Rattle.buffer.specs.Areas.{second_room}
use Rattle.session.specs.declared.Source.{Source}
use Rattle.session.specs.Numbers.{in_phase, append_setup}

-- how many they are
abbrev pub copy_count : ℕ → ℕ
copy_count words = pick (eqb (min words second_room) 0) 0 (9 * lines_for (min words second_room) + 4)

abbrev pub clean_count : ℕ → ℕ
clean_count words = copy_count words + 3

-- THE RECORD AT THE BEGIN: no action done yet; where the copies go, and where the next commit looks for space; what is
-- cleaned
abbrev pub cleaning : Control → Control
cleaning c = in_phase 6 0 c

abbrev pub copying_to : Setup → (chunk old lines first least : ℕ) → Source → Setup
copying_to k chunk old lines first least f =
    append_setup k chunk old lines first least f

abbrev pub source_of : Size → List ℕ → (chunk words entries : ℕ) → Source
source_of size ws chunk words entries = record { chunk = chunk; old = get_or ws (directory_word chunk) 0; lines = lines_of (power_of size) ws chunk; words = words; entries = entries }
