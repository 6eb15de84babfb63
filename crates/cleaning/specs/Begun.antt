-- What the begin of a cleaning leaves: the definitions' plan, with the record at its first action.
-- Assumes nothing.
use Rattle.std.specs.Prelude.{◌≡◌, List, [], ◌∷◌, ℕ, length, drop}
use Rattle.spec.specs.Log.{Entry}
use Rattle.spec.specs.Plans.{Cleaning, Begin, plan_clean}
use Rattle.session.specs.declared.Control.{Control}
use Rattle.session.specs.declared.Setup.{Setup}
use Rattle.session.specs.declared.Source.{Source}
use Rattle.session.specs.State.{power_in, clean_actions, clean_olds}
use Rattle.session.specs.Fits.{CleanFits, Reads}
use Rattle.actions.specs.Nth.{nth}
use Rattle.actions.specs.Record.{cleaning}

-- what the begin of a cleaning of chunk s shows, with the record at it
pub record Begun (c : Control) (k' : Setup) (f : Source) (b' ws table : List ℕ) (es : List Entry) (n s actions : ℕ) : Type 0 where
  pub plan : plan_clean (power_in k') n ws es [] s ≡ Begin [] (Cleaning f.entries (clean_olds k' f)) (clean_actions k' f b')
  pub count : actions ≡ length (clean_actions k' f b')
  pub first : clean_actions k' f b' ≡ nth (clean_actions k' f b') 0 ∷ drop 1 (clean_actions k' f b')
  pub fits : CleanFits (cleaning c) k' f b' ws table (nth (clean_actions k' f b') 0 ∷ drop 1 (clean_actions k' f b'))
  pub reads : Reads (record { control = cleaning c; setup = k'; buffer = b' }) (clean_olds k' f) (clean_actions k' f b') ws table
