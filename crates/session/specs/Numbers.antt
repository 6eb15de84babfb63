-- The record's numbers as a call leaves them, each way once.
-- Assumes nothing.
use Rattle.std.specs.Prelude.{ℕ, ◌+◌}
use Rattle.spec.specs.Places.{chunk_lines}
use Rattle.spec.specs.declared.Size.{Size}
use Rattle.places.specs.Sizes.{power_of}
use Rattle.session.specs.declared.Control.{Control}
use Rattle.session.specs.declared.Setup.{Setup}
use Rattle.session.specs.declared.Source.{Source}
use Rattle.session.specs.State.{no_source}

-- nothing open
abbrev pub closed : Control
closed = record { phase = 0; next = 0; items = 0; words = 0; keys = 0; fresh = 0 }

-- open and at rest with so many known keys, nothing staged
abbrev pub opened : ℕ → Control
opened keys = record { phase = 1; next = 0; items = 0; words = 0; keys = keys; fresh = 0 }

-- another next action
abbrev pub at_action : ℕ → Control → Control
at_action n c = record c { next = n }

-- before an action of a call of this phase; the same, with the known keys and the staged ones that are not known
-- counted anew
abbrev pub in_phase : (phase next : ℕ) → Control → Control
in_phase phase next c = record c { phase = phase; next = next }

abbrev pub with_keys : (phase next keys fresh : ℕ) → Control → Control
with_keys phase next keys fresh c = record c { phase = phase; next = next; keys = keys; fresh = fresh }

-- at rest with nothing staged; at rest with what is staged
abbrev pub ended_empty : Control → Control
ended_empty c = record { phase = 1; next = 0; items = 0; words = 0; keys = c.keys; fresh = 0 }

abbrev pub ended : Control → Control
ended c = record c { phase = 1; next = 0 }

-- a staging of one more item begun
abbrev pub staged_more : (next words fresh : ℕ) → Control → Control
staged_more next words fresh c = record c { phase = 2; next = next; items = c.items + 1; words = words; fresh = fresh }

-- a formatting begun
abbrev pub formatting_in : ℕ → Control
formatting_in phase = record { phase = phase; next = 0; items = 0; words = 0; keys = 0; fresh = 0 }

-- what a step only reads: nothing at all; a register opened with these lengths and chunks of a size; a formatting begun
-- with what it was told; a staging begun whose block is written to a chunk; a commit or a cleaning begun that writes to
-- one
abbrev pub empty_setup : Setup
empty_setup = record { image = 0; table = 0; power = 0; chunk = 0; old = 0; lines = 0; first = 0; least = 0; fields = 0; station = 0; centre = 0; source = no_source }

abbrev pub opened_setup : (image table : ℕ) → Size → Setup
opened_setup image table size = record empty_setup { image = image; table = table; power = power_of size; first = 1; least = chunk_lines (power_of size) }

abbrev pub format_setup : (image table : ℕ) → Size → (fields station centre : ℕ) → Setup
format_setup image table size fields station centre = record empty_setup { image = image; table = table; power = power_of size; fields = fields; station = station; centre = centre }

abbrev pub block_setup : Setup → (chunk old lines fields : ℕ) → Setup
block_setup k chunk old lines fields = record k { chunk = chunk; old = old; lines = lines; fields = fields }

abbrev pub append_setup : Setup → (chunk old lines first least : ℕ) → Source → Setup
append_setup k chunk old lines first least source = record k { chunk = chunk; old = old; lines = lines; first = first; least = least; source = source }
