-- What a station's display asks: the known keys of an open register.
-- Assumes nothing.
use Rattle.std.specs.Prelude.{◌≡◌, ℕ, Bool, List, length, ◌==◌}
use Rattle.spec.specs.Basics.{pick, either}
use Rattle.spec.specs.Places.{chunks_in}
use Rattle.spec.specs.Contents.{keys_of, entries_in}
use Rattle.spec.specs.Plans.{read_by}
use Rattle.spec.specs.Machine.{State, Closed, Rest, Busy, Formatting}
use Rattle.session.specs.declared.Control.{Control}
use Rattle.session.specs.declared.Setup.{Setup}
use Rattle.session.specs.declared.Session.{Session}
use Rattle.session.specs.State.{state_of}
use Rattle.session.specs.Fits.{Fits}

-- the known keys of an image of so many bytes in chunks of 2^p, whose words are ws: what refusal 7 counts
abbrev pub key_count : (p bytes : ℕ) → List ℕ → ℕ
key_count p bytes ws = length (keys_of (entries_in p (chunks_in p bytes) ws))

-- THE KNOWN KEYS, by the state: in an unfinished call those of the words that look-up reads
abbrev pub known_keys : State → List ℕ → ℕ
known_keys Closed ws = 0
known_keys (Rest p b t items) ws = key_count p b ws
known_keys (Busy p b t items task rest) ws = key_count p b (read_by task rest ws)
known_keys (Formatting o b t rest) ws = 0

-- the record's count, in the phases in which a register is open and not being formatted
abbrev pub is_counted : Control → Bool
is_counted c = either (c.phase == 1) (either (c.phase == 2) (either (c.phase == 3) (c.phase == 6)))

abbrev pub keys_in : Control → ℕ
keys_in c = pick (is_counted c) c.keys 0

-- for any memory the record's count; on memory as our calls left it that of the known keys
abbrev pub Known : Session → ℕ → Type 0
Known s n = (n ≡ keys_in s.control) × ((ws table : List ℕ) → Fits s ws table → n ≡ known_keys (state_of s) ws)

-- the same, by the record's control alone
abbrev pub KnownBy : Control → ℕ → Type 0
KnownBy c n = (k : Setup) (b : List ℕ) → Known (record { control = c; setup = k; buffer = b }) n
