-- CLOSING CHANGES NOTHING, for the very contracts that the public functions ensure: a record and a table that fit at
-- rest stand beside an image that opening accepts.
-- Assumes nothing.
use mathlib.Core.Path.{◌≡◌, refl, sym, ap, subst, ◌∙◌}
use mathlib.Core.Bool.{Bool, true, false}
use mathlib.Core.List.{List, []}
use Prim.Native.Nat.{ℕ}
use lib.Dec.{eqb}
use lib.ListN.{length}
use Rattle.spec.specs.Basics.{pick}
use Rattle.spec.specs.Header.{header_power}
use Rattle.spec.specs.Log.{Entry}
use Rattle.spec.specs.Opening.{Accepted, opening}
use Rattle.spec.specs.Machine.{State, Closed, Rest, Busy, Formatting}
use Rattle.spec.specs.Reopening.{Reopened, ReopenedAfter}
use Rattle.session.specs.declared.Session.{Session}
use Rattle.session.specs.State.{power_in, state_of, state_at}
use Rattle.session.specs.Fits.{RestFits, FitsAt, Fits}
use Rattle.theory_histories.proofs.Twins.{reopened}
use Rattle.theory_histories.proofs.Every.{every-reopening}
use Rattle.session.specs.Fits.{Proper}

-- the numbers of a state at rest are the record's
abbrev Numbers : (p image table : ℕ) → State → Type 0
Numbers p image table Closed = Unit {0}
Numbers p image table (Rest q b t items) = (q ≡ p) × ((b ≡ image) × (t ≡ table))
Numbers p image table (Busy q b t items task rest) = Unit {0}
Numbers p image table (Formatting o b t rest) = Unit {0}

pick-numbers : (p image table : ℕ) (q : Bool) (σ τ : State) → Numbers p image table σ → Numbers p image table τ → Numbers p image table (pick q σ τ)
pick-numbers p image table true σ τ x y = x
pick-numbers p image table false σ τ x y = y

numbers : (s : Session) → Numbers (power_in s.setup) s.setup.image s.setup.table (state_of s)
unfolding state_at
numbers s =
    let p = power_in s.setup in
    let i = s.setup.image in
    let t = s.setup.table in
    let c = s.control.phase in
    pick-numbers p i t (eqb c 1) _ _ (refl, (refl, refl))
    (pick-numbers p i t (eqb c 2) _ _ tt (pick-numbers p i t (eqb c 3) _ _ tt (pick-numbers p i t (eqb c 4) _ _ tt (pick-numbers p i t (eqb c 5) _ _ tt (pick-numbers p i t (eqb c 6) _ Closed tt tt)))))

-- WHAT FITS AT REST is accepted with a table of that length, and its header says the state's power.
accepted : (s : Session) (ws table : List ℕ) (p bytes : ℕ) → Fits s ws table → state_of s ≡ Rest p bytes (length table) [] → (header_power ws ≡ p) × ((es : List Entry) × (opening bytes ws (length table) ≡ Accepted es))
accepted s ws table p bytes f e =
    let l : (p ≡ power_in s.setup) × ((bytes ≡ s.setup.image) × (length table ≡ s.setup.table)) = subst (λ (σ : State). Numbers (power_in s.setup) s.setup.image s.setup.table σ) e (numbers s) in
    let r : RestFits s ws table [] = subst (λ (σ : State). FitsAt σ s ws table) e f.1 in
    (r.accepted.power ∙ sym l.0, (r.entries, ap (λ (b : ℕ). opening b ws (length table)) l.1.0 ∙ ap (λ (t : ℕ). opening s.setup.image ws t) l.1.1 ∙ r.accepted.accepts))

-- a station at rest, closed and opened again, answers every later list of calls as if it had not been closed
pub closing : Reopened Proper state_of Fits
closing = reopened Proper state_of Fits (λ s ws table f. f.0) accepted

-- the same after every list of calls, by their answers
pub closing_after : ReopenedAfter Proper state_of Fits
closing_after = every-reopening Proper state_of Fits (λ s ws table f. f.0)
