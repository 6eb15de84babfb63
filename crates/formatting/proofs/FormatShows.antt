-- What the code shows at each return of the begin of a formatting is what the contract says.
-- Assumes nothing.
use mathlib.Core.Path.{◌≡◌, refl, sym, ◌∙◌, ap}
use mathlib.Core.Logic.{inl, inr, by_cases}
use mathlib.Core.Bool.{Bool, true, false}
use mathlib.Core.List.{List}
use Prim.Native.Nat.{ℕ, zero, suc, ◌/◌, ◌%◌, ◌≤◌}
use native.Mathlib.Omega.{arith}
use native.Mathlib.Decide.{ℕ_discrete}
use lib.Dec.{eqb}
use lib.ListN.{length}
use borrow.Author.Tests.{eqb-true, ne_eqb, le-leb, lt-leb}
use Rattle.spec.specs.Basics.{pick, both}
use Rattle.spec.specs.Places.{length_allowed, size_allowed, chunks_in}
use Rattle.spec.specs.declared.Size.{Size}
use Rattle.spec.specs.declared.Size.TheVariants as S
use Rattle.places.specs.Sizes.{power_of, size_by}
use Rattle.spec.specs.Header.{power_bit, header_map}
use Rattle.spec.specs.Medium.{Action}
use Rattle.spec.specs.Actions.{format_of}
use Rattle.spec.specs.Machine.{Format, Formatting, is_unfinished, is_open, next}
use Rattle.session.specs.declared.Control.{Control}
use Rattle.session.specs.declared.Setup.{Setup}
use Rattle.session.specs.declared.Session.{Session}
use Rattle.spec.specs.Basics.{Given}
use Rattle.std.specs.Option.{unwrap_or}
use Rattle.std.specs.declared.option.Option.TheVariants as H
use Rattle.spec.specs.declared.Refusal.TheVariants as N
use Rattle.spec.specs.declared.Report.TheVariants as R
use Rattle.theory_base.proofs.Lists.{not-both, both_l}
use Rattle.theory_crash.proofs.Format.{format-count}
use Rattle.session.specs.State.{given_by, format_actions, state_by, state_at, state_of}
use Rattle.session.proofs.Phases.{past}
use Rattle.session.proofs.Gates.{refused}
use Rattle.formatting.specs.Begun.{number_in, unfinished_at, formatting_at}
use Rattle.session.specs.Promise.{Does, memory, memory_of}
use Rattle.session.specs.Numbers.{formatting_in, format_setup}

-- the number given, 0 where none is, as the code takes it
pub number-given : (g : Given) → unwrap_or g 0 ≡ number_in g
number-given (H.Some x) = refl
number-given H.None = refl

module _ (c : Control) (k : Setup) (b bytes table : List ℕ) where
  abbrev s : Session
  s = record { control = c; setup = k; buffer = b }

  -- what it was told is given back by the header's map
  told : (size : Size) (station centre : Given)
      → (given_by (header_map (power_of size) station centre / 2 % 2) (number_in station) ≡ station) × (given_by (header_map (power_of size) station centre / 4 % 2) (number_in centre) ≡ centre)
  unfolding power_bit
  told S.Small (H.Some x) (H.Some y) = (refl, refl)
  told S.Small (H.Some x) H.None = (refl, refl)
  told S.Small H.None (H.Some y) = (refl, refl)
  told S.Small H.None H.None = (refl, refl)
  told S.Large (H.Some x) (H.Some y) = (refl, refl)
  told S.Large (H.Some x) H.None = (refl, refl)
  told S.Large H.None (H.Some y) = (refl, refl)
  told S.Large H.None H.None = (refl, refl)

  -- a size is kept as its power
  by-power : (size : Size) → size_by (power_of size) ≡ size
  by-power S.Small = refl
  by-power S.Large = refl

  -- the state by the phase
  unfinished-by : (phase : ℕ) → is_unfinished (state_by phase c k b) ≡ unfinished_at phase
  unfinished-by zero = refl
  unfinished-by (suc zero) = refl
  unfinished-by (suc (suc zero)) = refl
  unfinished-by (suc (suc (suc zero))) = refl
  unfinished-by (suc (suc (suc (suc zero)))) = refl
  unfinished-by (suc (suc (suc (suc (suc zero))))) = refl
  unfinished-by (suc (suc (suc (suc (suc (suc zero)))))) = refl
  unfinished-by (suc (suc (suc (suc (suc (suc (suc n))))))) = more (suc (suc (suc (suc (suc (suc (suc n))))))) (omega arith)
    where
      more : (p : ℕ) → 7 ≤ p → is_unfinished (state_by p c k b) ≡ unfinished_at p
      more p h = ap is_unfinished (past c k b p h) ∙ sym (rw (le-leb 2 p (omega arith), lt-leb p 6 (omega arith)))

  open_by : (phase : ℕ) → unfinished_at phase ≡ false → is_open (state_by phase c k b) ≡ eqb phase 1
  open_by zero h = refl
  open_by (suc zero) h = refl
  open_by (suc (suc zero)) h = absurd (not-both true refl h)
  open_by (suc (suc (suc zero))) h = absurd (not-both true refl h)
  open_by (suc (suc (suc (suc zero)))) h = absurd (not-both true refl h)
  open_by (suc (suc (suc (suc (suc zero))))) h = absurd (not-both true refl h)
  open_by (suc (suc (suc (suc (suc (suc zero)))))) h = absurd (not-both true refl h)
  open_by (suc (suc (suc (suc (suc (suc (suc n))))))) h = more (suc (suc (suc (suc (suc (suc (suc n))))))) (omega arith)
    where
      more : (p : ℕ) → 7 ≤ p → is_open (state_by p c k b) ≡ eqb p 1
      more p h = ap is_open (past c k b p h) ∙ sym (ne_eqb p 1 (λ q. omega arith))

  -- the code's test, at the size that the number stands for, is the definition's
  pub tested : (power : ℕ) → both (eqb (power_of (size_by power)) power) (length_allowed (power_of (size_by power)) (length bytes)) ≡ size_allowed power (length bytes)
  unfolding size_allowed
  tested power = by_cases (ℕ_discrete power 16) (λ l. rw l) (λ l. by_cases (ℕ_discrete power 12) (λ e. rw e) (λ e. rw (ne_eqb power 16 l, ne_eqb power 12 e, ne_eqb 12 power (λ q. e (sym q)))))

  pub allowed-by : (power : ℕ) (size : Size) (r : Bool) → size ≡ size_by power → r ≡ both (eqb (power_of size) power) (length_allowed (power_of size) (length bytes)) → r ≡ size_allowed power (length bytes)
  allowed-by power size r q h = h ∙ rw q (tested power)

  allowed-power : (power : ℕ) → size_allowed power (length bytes) ≡ true → power_of (size_by power) ≡ power
  allowed-power power h = eqb-true (power_of (size_by power)) power (both_l (eqb (power_of (size_by power)) power) (length_allowed (power_of (size_by power)) (length bytes)) (tested power ∙ h))

  module _ (power : ℕ) (station centre : Given) where
    abbrev formatting : Session
    formatting = record {
      control = formatting_in (formatting_at c.phase);
      setup = format_setup (length bytes) (length table) (size_by power) (header_map (power_of (size_by power)) station centre) (number_in station) (number_in centre);
      buffer = b;
    }

    abbrev acts : List Action
    acts = format_of (power_of (size_by power)) (chunks_in (power_of (size_by power)) (length bytes)) station centre

    -- the record after the begin, by whether a register was open
    begun-state : state_of formatting ≡ Formatting (eqb c.phase 1) (length bytes) (length table) acts
    unfolding state_at format_actions
    begun-state = go (eqb c.phase 1)
      where
        go : (t : Bool) → state_by (pick t 5 4) formatting.control formatting.setup b ≡ Formatting t (length bytes) (length table) acts
        go true = rw (by-power (size_by power), (told (size_by power) station centre).0, (told (size_by power) station centre).1)
        go false = rw (by-power (size_by power), (told (size_by power) station centre).0, (told (size_by power) station centre).1)

    pub format-length : size_allowed power (length bytes) ≡ false → Does (Format power station centre) (memory s bytes table) (memory s bytes table) (R.Refused N.ImageLength)
    unfolding next
    format-length h = refused s bytes table N.ImageLength (Format power station centre) refl (λ f q. absurd (not-both true refl q)) (λ f. rw h)
        (λ r q. absurd (let z : ◌≡◌ {A = ℕ} 0 1 = cc in omega arith)) (inl refl) (refl, refl) (rw h, rw h)

    pub format-unfinished : size_allowed power (length bytes) ≡ true → unfinished_at c.phase ≡ true → Does (Format power station centre) (memory s bytes table) (memory s bytes table) (R.Refused N.Unfinished)
    unfolding state_at next
    format-unfinished h u = refused s bytes table N.Unfinished (Format power station centre) refl (λ f q. absurd (not-both true refl q)) (λ f. rw (h, unfinished-by c.phase, u))
        (λ r q. absurd (let z : ◌≡◌ {A = ℕ} 0 1 = cc in omega arith)) (inr (inl refl)) (refl, refl) (rw (h, unfinished-by c.phase, u), rw (h, unfinished-by c.phase, u))

    begins : size_allowed power (length bytes) ≡ true → unfinished_at c.phase ≡ false
        → Does (Format power station centre) (memory s bytes table) (memory formatting bytes table) (R.Begun 582)
    unfolding state_at next
    begins h u =
        let e = allowed-power power h in
        let n = format-count power (chunks_in power (length bytes)) station centre in
        let state : state_of formatting ≡ Formatting (eqb c.phase 1) (length bytes) (length table) (format_of power (chunks_in power (length bytes)) station centre) =
        begun-state ∙ ap (λ (q : ℕ). Formatting (eqb c.phase 1) (length bytes) (length table) (format_of q (chunks_in q (length bytes)) station centre)) e in
        record {
          exact = λ proper. record {
            answered = rw (h, unfinished-by c.phase, u, n);
            became = state ∙ sym (rw (h, unfinished-by c.phase, u, open_by c.phase u));
            fits = λ q. (proper, rw begun-state tt);
          };
          first = λ r q. absurd (let z : ◌≡◌ {A = ℕ} 0 1 = cc in omega arith);
          image = refl;
          sized = refl;
          outcome = (rw (state, n), refl);
          anyway = (rw (h, unfinished-by c.phase, u, n), state ∙ sym (rw (h, unfinished-by c.phase, u, open_by c.phase u)));
        }

    pub format-begun : (size : Size) (phase fields x y : ℕ) (c' : Control) (k' : Setup) → size ≡ size_by power → phase ≡ formatting_at c.phase → fields ≡ header_map (power_of size) station centre
        → x ≡ number_in station → y ≡ number_in centre → c' ≡ formatting_in phase → k' ≡ format_setup (length bytes) (length table) size fields x y
        → size_allowed power (length bytes) ≡ true → unfinished_at c.phase ≡ false
        → Does (Format power station centre) (memory s bytes table) (memory_of c' k' b bytes table) (R.Begun 582)
    format-begun size phase fields x y c' k' z p q d e i j h u = rw (i, j, p, q, d, e, z) (begins h u)
