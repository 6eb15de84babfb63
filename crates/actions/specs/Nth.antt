-- The actions of a call by number, and how many there are.
-- Assumes nothing.
use Rattle.std.specs.Prelude.{List, [], ◌∷◌, ℕ, ◌+◌, ◌*◌, ◌/◌, ◌%◌, min, get_or}
use Rattle.spec.specs.Places.{chunks_in, line_of}
use Rattle.spec.specs.Header.{header_words}
use Rattle.spec.specs.Medium.{Action, Store, Flush, Fence}
use Rattle.spec.specs.Actions.{lines_for}
use Rattle.spec.specs.Reports.{as_report}
use Rattle.spec.specs.declared.Report.{Report}
use Rattle.session.specs.declared.Setup.{Setup}
use Rattle.buffer.specs.Areas.{batch_room}
use Rattle.session.specs.State.{power_in, given_by}

-- the action number i, counted from 0, and its report; past the end a fence
abbrev pub nth : List Action → ℕ → Action
nth acts i = get_or acts i Fence

abbrev pub nth_report : List Action → ℕ → Report
nth_report acts i = as_report (nth acts i)

-- a word stored, its line flushed, and a fence
abbrev pub word_of : ℕ → ℕ → List Action
word_of w v = Store w v ∷ Flush (line_of w) ∷ Fence ∷ []

-- a commit of so many staged words, and a formatting
abbrev pub commit_count : ℕ → ℕ
commit_count words = 9 * lines_for (min words batch_room) + 4

abbrev pub format_count : ℕ
format_count = 582

-- word i of the register that a formatting makes
unfoldable pub register_word : Setup → ℕ → ℕ
register_word k i =
    get_or (header_words (power_in k) (chunks_in (power_in k) k.image) (given_by (k.fields / 2 % 2) k.station) (given_by (k.fields / 4 % 2) k.centre)) i 0
