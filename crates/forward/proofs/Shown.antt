-- What look-up reads while a call is on its way: after every action the words with the old directory words put back are
-- accepted with the entries of the begin.
-- Assumes nothing.
use mathlib.Core.Path.{◌≡◌, ◌∙◌, ap}
use mathlib.Core.List.{List, [], ◌∷◌}
use Prim.Native.Nat.{ℕ, ◌/◌}
use lib.ListN.{length}
use Rattle.spec.specs.declared.Size.{Size}
use Rattle.places.specs.Sizes.{power_of, power-low, power-high}
use Rattle.spec.specs.Places.{chunks_in}
use Rattle.spec.specs.Medium.{Action, Store, Flush, Fence, Medium, apply, latest, settled_at}
use Rattle.spec.specs.Log.{Entry}
use Rattle.spec.specs.Reports.{as_report, words_after}
use Rattle.spec.specs.Plans.{Olds, put_back}
use Rattle.theory_base.proofs.Words as W
use Rattle.theory_base.proofs.Through.{Through, Each}
use Rattle.theory_crash.specs.Accepted.{Ok, Framed}
use Rattle.theory_crash.proofs.Frame.{frame-ok}
use Rattle.session.proofs.OpensRight.{opens-right, right-opens}
use Rattle.theory_crash.proofs.Rest.{latest-quiet}
use Rattle.theory_base.proofs.PutBack.{AreOf}
use Rattle.theory_crash.proofs.View.{Shy, seen-through}
use Rattle.session.specs.Fits.{Opens, Shown}

latest-after : (a : Action) (m : Medium) → latest (apply a m) ≡ words_after (as_report a) (latest m)
latest-after (Store w v) m = W.latest-store w v m
latest-after (Flush l) m = latest-quiet (Flush l) m tt
latest-after Fence m = latest-quiet Fence m tt

module _ (sz : Size) (bytes table : ℕ) (ws : List ℕ) (es : List Entry) (accepted : Opens (power_of sz) bytes ws table es) (long : length ws ≡ bytes / 8) where
  abbrev n : ℕ
  n = chunks_in (power_of sz) bytes

  pub begin-ok : Ok (power_of sz) n ws es
  begin-ok = (opens-right (power_of sz) bytes table ws es long accepted).0

  module _ (olds : Olds) where
    shown-from : (acts : List Action) (m : Medium) (vs : List ℕ) → latest m ≡ vs
        → Through (λ m'. Framed (power_of sz) n ws es (put_back olds (latest m'))) (λ m'. Framed (power_of sz) n ws es (put_back olds (latest m'))) acts m → Shown (power_of sz) bytes table olds es acts vs
    shown-from [] m vs e t = tt
    shown-from (a ∷ rest) m vs e (f, t) =
        let o = opens-right (power_of sz) bytes table ws es long accepted in (
          rw (← e) (right-opens sz n bytes table (put_back olds (latest m)) es o.2 (frame-ok (power_of sz) (power-low sz) (power-high sz) n ws es (put_back olds (latest m)) o.0 f) o.1),
          shown-from rest (apply a m) (words_after (as_report a) vs) (latest-after a m ∙ ap (words_after (as_report a)) e) t,
        )

    pub shown_by : (acts : List Action) → AreOf ws olds → Each (Shy (power_of sz) (power-low sz) (power-high sz) n ws es begin-ok olds) acts → Shown (power_of sz) bytes table olds es acts ws
    shown_by acts of shy =
        shown-from acts (settled_at ws) ws (W.latest-settled ws) (seen-through (power_of sz) (power-low sz) (power-high sz) n ws es begin-ok olds acts (settled_at ws) (W.latest-settled ws) of shy)
