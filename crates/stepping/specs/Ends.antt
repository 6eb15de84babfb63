-- The record after an action of a cleaning; where the code finds the words of the cleaned chunk and their copies.
-- Assumes nothing.
use Rattle.std.specs.Prelude.{◌≡◌, ℕ, ◌+◌, ◌*◌, min}
use Rattle.spec.specs.Places.{base}
use Rattle.spec.specs.Actions.{lines_for}
use Rattle.session.specs.declared.Control.{Control}
use Rattle.session.specs.declared.Setup.{Setup}
use Rattle.buffer.specs.Areas.{second_room}
use Rattle.session.specs.State.{power_in, chunk_in, lines_in, source_in, source_lines}
use Rattle.session.specs.declared.Source.{Source}
use Rattle.session.specs.Numbers.{with_keys}

-- after an action of a cleaning: its number counted on, so many known keys
abbrev pub acted : Control → ℕ → Control
acted c keys = with_keys 6 (c.next + 1) keys c.fresh c

-- where the code finds the chunk's words and their copies
pub record Ends (k : Setup) (f : Source) (at end from until : ℕ) : Type 0 where
  pub at-is : at ≡ base (power_in k) (source_in f)
  pub end_is : end ≡ at + 8 * source_lines f
  pub from_is : from ≡ base (power_in k) (chunk_in k) + 8 * lines_in k
  pub until-is : until ≡ from + 8 * lines_for (min f.words second_room)
