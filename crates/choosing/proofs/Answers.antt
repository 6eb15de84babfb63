-- The call: refused at the gate, or behind it by what was found.
-- Assumes nothing.
use mathlib.Core.Path.{◌≡◌, refl, sym, ◌∙◌, ap}
use mathlib.Core.Logic.{inl, inr}
use mathlib.Core.Bool.{true}
use mathlib.Core.Option as maybe
use mathlib.Core.Option.{none, some}
use Rattle.std.specs.Prelude.{Option, Some, None, Result, Ok, Err}
use mathlib.Core.List.{List}
use Prim.Native.Nat.{ℕ}
use native.Mathlib.Omega.{arith}
use lib.ListN.{length}
use Rattle.spec.specs.declared.Size.{Size}
use Rattle.places.specs.Sizes.{power_of}
use Rattle.spec.specs.Basics.{both}
use Rattle.spec.specs.Words.{words_of}
use Rattle.spec.specs.Places.{chunks_in}
use Rattle.spec.specs.Log.{Entries, image_entries}
use Rattle.spec.specs.Reports.{is_refused}
use Rattle.spec.specs.Plans.{chosen_or, chosen_chunk}
use Rattle.spec.specs.Machine.{Choose, State, gate, answer, next, state_power}
use Rattle.spec.specs.Contract.{Changed, Anyway, Outcome}
use Rattle.session.specs.declared.Control.{Control}
use Rattle.session.specs.declared.Setup.{Setup}
use Rattle.session.specs.declared.Session.{Session}
use Rattle.spec.specs.declared.Refusal.{Refusal}
use Rattle.spec.specs.declared.Refusal.TheVariants as N
use Rattle.spec.specs.declared.Report.TheVariants as R
use Rattle.theory_base.proofs.Lists.{pick_same}
use Rattle.session.specs.State.{size_in, power_in, state_of}
use Rattle.session.specs.Fits.{Fits}
use Rattle.session.specs.Asks.{gate_of, Asking}
use Rattle.lookup.specs.Look.{session_of}
use Rattle.session.proofs.Gates.{turned_down, gate-passed, at_rest}
use Rattle.session.proofs.OpensRight.{opens-right}
use Rattle.choosing.specs.Choices.{choice_of, InCount, Chooses, report_of, ChosenIn, Choosing}
use Rattle.session.specs.Promise.{Does, memory}
use Rattle.session.specs.Fits.{Proper}

report-or : (o : maybe.Option ℕ) → report_of (choice_of o) ≡ chosen_or o
report-or none = refl
report-or (some c) = refl

in-report : (n : ℕ) (r : Option ℕ) → InCount n r → ChosenIn n (report_of r)
in-report n (Some c) h = h
in-report n None h = tt

-- choosing leaves the state as it was
next-same : (σ : State) (ws : List ℕ) (bytes words : ℕ) → σ ≡ next Choose σ ws bytes words
unfolding next
next-same σ ws bytes words = sym (pick_same (both (is_refused (answer Choose σ ws bytes words)) true) σ)

module _ (s : Session) (bytes table : List ℕ) where
  outcome : (r : Option ℕ) → Outcome Proper state_of Fits Choose s s table table (report_of r)
  outcome (Some c) = (refl, refl)
  outcome None = (inr (inr (inr (inl refl))), (refl, refl))

  unchanged : (r : Option ℕ) → Changed (report_of r) bytes bytes
  unchanged (Some c) = refl
  unchanged None = refl

  -- behind the gate
  module _ (g : gate (state_of s) (length bytes) (length table) ≡ none) where
    abbrev n : ℕ
    n = chunks_in (power_in s.setup) (length bytes)

    power-is : state_power (state_of s) ≡ power_in s.setup
    power-is = ap state_power (gate-passed s (length bytes) (length table) g).state

    anyway : (r : Option ℕ) → InCount n r → Anyway Choose (state_of s) (state_of s) (words_of bytes) (length bytes) (length table) (report_of r)
    anyway (Some c) h = inr (c, (refl, (h.0, rw power-is h.1)))
    anyway None h = inl (N.NotCleanable, refl)

    found : (r : Option ℕ) → Chooses (size_in s.setup) (words_of bytes) table s.buffer n r → Does Choose (memory s bytes table) (memory s bytes table) (report_of r)
    found r h = record {
      exact = λ f. record { answered = answered f; became = next-same (state_of s) (words_of bytes) (length bytes) (length table); fits = f };
      first = λ r' q. absurd (let p : none ≡ some r' = rw g at q in let z : ◌≡◌ {A = ℕ} 0 1 = cc in omega arith);
      image = unchanged r;
      sized = refl;
      outcome = outcome r;
      anyway = anyway r h.inside;
    }
      where
        answered : Fits s (words_of bytes) table → report_of r ≡ answer Choose (state_of s) (words_of bytes) (length bytes) (length table)
        answered f =
            let a = at_rest s (length bytes) (length table) (words_of bytes) table g f in
            let rest = a.fits in
            let o = opens-right (power_in s.setup) s.setup.image s.setup.table (words_of bytes) rest.entries rest.long rest.accepted in
            let m : chunks_in (power_in s.setup) s.setup.image ≡ n = ap (chunks_in (power_in s.setup)) a.same_bytes in
            let p : image_entries (power_in s.setup) n (words_of bytes) ≡ Entries rest.entries = rw m at o.0.parsed in
            rw (g, power-is, p) (ap report_of (h.exact s.control.keys rest.entries (rw m at o.0) rest.built.indexed rest.built.sums) ∙ report-or (chosen_chunk (power_in s.setup) n (words_of bytes) rest.entries))

-- what the code shows
module _ (c : Control) (k : Setup) (b bytes table : List ℕ) (g : Result (Unit {0}) Refusal) (asks : Asking c k (length bytes) (length table) g) where
  pub gate-refuses : (n : Refusal) → g ≡ Err n → Choosing c k b bytes table (R.Refused n)
  gate-refuses n e = record { called = turned_down (session_of c k b) bytes table n (asks.asked b ∙ ap gate_of e) Choose tt; inside = tt }

  module _ (e : g ≡ Ok tt) (size : Size) (es : size ≡ size_in k) (m : ℕ) (em : m ≡ chunks_in (power_of size) (length bytes)) (r : Option ℕ) (h : Chooses size (words_of bytes) table b m r) where
    pub answers : (r' : Option ℕ) → r ≡ r' → Choosing c k b bytes table (report_of r')
    answers r' is =
        let q : Chooses (size_in k) (words_of bytes) table b (chunks_in (power_in k) (length bytes)) r' = rw (em, es, is) at h in
        record { called = found (session_of c k b) bytes table (asks.asked b ∙ ap gate_of e) r' q; inside = in-report (chunks_in (power_in k) (length bytes)) r' q.inside }
