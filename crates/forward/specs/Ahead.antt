-- Memory while a large value is staged, looking forward: what the words are when the staging's actions are done.
-- Assumes nothing.
use Rattle.std.specs.Prelude.{◌≡◌, List, [], ℕ, ◌/◌, length}
use Rattle.spec.specs.declared.Size.{Size}
use Rattle.places.specs.Sizes.{power_of}
use Rattle.spec.specs.Places.{chunks_in}
use Rattle.spec.specs.Medium.{Action}
use Rattle.spec.specs.Log.{Entry}
use Rattle.spec.specs.Reports.{run_words}
use Rattle.session.specs.Fits.{Opens, ItemsFit, Hint, Shown}

-- what the actions of a staging do to words at rest with the entries es
pub record Ahead (sz : Size) (bytes table : ℕ) (ws : List ℕ) (es items : List Entry) (acts : List Action) : Type 0 where
  pub accepted : Opens (power_of sz) bytes (run_words acts ws) table es
  pub shown : Shown (power_of sz) bytes table [] es acts ws
  pub placed : ItemsFit (power_of sz) (chunks_in (power_of sz) bytes) (run_words acts ws) es items
  pub long : length (run_words acts ws) ≡ bytes / 8
  pub hint : (first least : ℕ) → Hint (power_of sz) (chunks_in (power_of sz) bytes) ws first least → Hint (power_of sz) (chunks_in (power_of sz) bytes) (run_words acts ws) first least
