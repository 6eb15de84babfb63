-- The call: what the gate lets through and the begin shows is what the contract says.
-- Assumes nothing.
use mathlib.Core.Path.{◌≡◌, refl, sym, ◌∙◌, ap, subst}
use mathlib.Core.Logic.{inl, inr}
use mathlib.Core.Option.{none, some}
use mathlib.Core.List.{List, []}
use Prim.Native.Nat.{ℕ, suc}
use native.Mathlib.Omega.{arith}
use lib.ListN.{length}
use Rattle.spec.specs.Words.{words_of}
use Rattle.places.specs.Sizes.{power_of, size_by}
use Rattle.spec.specs.Places.{chunks_in}
use Rattle.spec.specs.Medium.{Action}
use Rattle.spec.specs.Log.{Entry}
use Rattle.spec.specs.Contents.{listed, entries_in}
use Rattle.spec.specs.Plans.{Cleaning, Begin, planned, plan_clean}
use Rattle.spec.specs.Machine.{Clean, State, Busy, gate, refused_by, items_of, state_power, next}
use Rattle.spec.specs.Contract.{Exact}
use Rattle.session.specs.declared.Control.{Control}
use Rattle.session.specs.declared.Setup.{Setup}
use Rattle.session.specs.declared.Session.{Session}
use Rattle.spec.specs.declared.Refusal.{Refusal}
use Rattle.spec.specs.declared.Report.{Report}
use Rattle.spec.specs.declared.Report.TheVariants as R
use Rattle.theory_crash.specs.Accepted.{Ok}
use Rattle.session.proofs.OpensRight.{opens-right}
use Rattle.session.specs.State.{power_in, clean_olds, clean_actions, state_at, state_of}
use Rattle.session.specs.Fits.{CleanFits, Fits}
use Rattle.std.specs.Prelude.{Result}
use Rattle.std.specs.declared.result.Result.TheVariants as G
use Rattle.session.specs.Asks.{gate_of, Asking}
use Rattle.session.proofs.Gates as Gates
use Rattle.actions.specs.Record.{cleaning}
use Rattle.cleaning.specs.Begun.{Begun}
use Rattle.cleaning.specs.Outsets.{Turned, Set, Outsets}
use Rattle.session.specs.Promise.{Does, memory, memory_of}
use Rattle.session.specs.Fits.{Proper}

-- the record at the begin, read as a state
begun-state : (c : Control) (k : Setup) (b : List ℕ) → state_at (cleaning c) k b ≡ Busy (power_in k) k.image k.table [] (Cleaning k.source.entries (clean_olds k k.source)) (clean_actions k k.source b)
unfolding state_at
begun-state c k b = refl

module _ (c : Control) (k : Setup) (b bytes table : List ℕ) (s : ℕ) (g : Result (Unit {0}) Refusal) (asks : Asking c k (length bytes) (length table) g) where
  abbrev m : Session
  m = record { control = c; setup = k; buffer = b }

  abbrev ws : List ℕ
  ws = words_of bytes

  abbrev n : ℕ
  n = chunks_in (power_in k) (length bytes)

  pub gate-refuses : (x : Refusal) → g ≡ G.Err x → Does (Clean s) (memory m bytes table) (memory m bytes table) (R.Refused x)
  gate-refuses x e = Gates.turned_down m bytes table x (asks.asked b ∙ ap gate_of e) (Clean s) tt

  module _ (e : g ≡ G.Ok tt) where
    opened : gate (state_of m) (length bytes) (length table) ≡ none
    opened = asks.asked b ∙ ap gate_of e

    power-is : state_power (state_of m) ≡ power_in k
    power-is = ap state_power (Gates.gate-passed m (length bytes) (length table) opened).state

    passed : (r r' : Report) → refused_by (gate (state_of m) (length bytes) (length table)) ≡ some r' → r ≡ r'
    passed r r' h = absurd (let q : none ≡ some r' = rw opened at h in let z : ◌≡◌ {A = ℕ} 0 1 = cc in omega arith)

    rests : Fits m ws table → Gates.AtRest m (length bytes) (length table) ws table
    rests q = Gates.at_rest m (length bytes) (length table) ws table opened q

    -- the plan on the image's own entries is that on the entries of memory at rest
    own-entries : (q : Fits m ws table) → entries_in (power_in k) n ws ≡ (rests q).fits.entries
    own-entries q =
        let a = rests q in
        let ok : Ok (power_in k) (chunks_in (power_in k) k.image) ws a.fits.entries = (opens-right (power_in k) k.image k.table ws a.fits.entries a.fits.long a.fits.accepted).0 in
        ap listed (rw (ap (chunks_in (power_in k)) a.same_bytes) at ok.parsed)

    plan-is : (q : Fits m ws table) → plan_clean (power_in k) n ws (entries_in (power_in k) n ws) (items_of (state_of m)) s ≡ plan_clean (power_in k) (chunks_in (power_in k) k.image) ws (rests q).fits.entries (rests q).items s
    plan-is q =
        ap (λ (x : State). plan_clean (power_in k) n ws (entries_in (power_in k) n ws) (items_of x) s) (rests q).state
        ∙ ap (λ (es : List Entry). plan_clean (power_in k) n ws es (rests q).items s) (own-entries q)
        ∙ ap (λ (x : ℕ). plan_clean (power_in k) (chunks_in (power_in k) x) ws (rests q).fits.entries (rests q).items s) (sym (rests q).same_bytes)

    turned : (c' : Control) (k' : Setup) (b' : List ℕ) (r : Report) → Turned c c' k k' b b' bytes table s r → Does (Clean s) (memory m bytes table) (memory_of c' k' b' bytes table) r
    turned c' k' b' r t =
        rw (t.report, t.control, t.setup, t.buffer)
        (Gates.refused m bytes table t.number (Clean s) refl (λ q. q)
        (λ q. let a = rests q in rw (opened, power-is) (sym (ap planned (plan-is q ∙ t.right a.same_bytes a.items a.fits))))
        (passed (R.Refused t.number)) t.listed (refl, refl) (inl (t.number, refl)))

    module _ (c' : Control) (k' : Setup) (b' : List ℕ) (r : Report) (t : Set c c' k k' b b' bytes table s r) where
      abbrev acts : List Action
      acts = clean_actions k' k'.source b'

      abbrev m' : Session
      m' = record { control = cleaning c; setup = k'; buffer = b' }

      state' : state_of m' ≡ Busy (power_in k) k.image k.table [] (Cleaning k'.source.entries (clean_olds k' k'.source)) acts
      state' = begun-state c k' b' ∙ rw (t.power-same, t.image-same, t.table_same)

      -- of any memory, with the lent lengths
      began : state_of m' ≡ Busy (power_in k) (length bytes) (length table) [] (Cleaning k'.source.entries (clean_olds k' k'.source)) acts
      began =
          let l = Gates.gate-passed m (length bytes) (length table) opened in
          state' ∙ ap (λ (x : ℕ). Busy (power_in k) x k.table [] (Cleaning k'.source.entries (clean_olds k' k'.source)) acts) l.same_bytes
          ∙ ap (λ (x : ℕ). Busy (power_in k) (length bytes) x [] (Cleaning k'.source.entries (clean_olds k' k'.source)) acts) l.same-words

      module _ (q : Fits m ws table) (h : ((rests q).items ≡ []) × Begun c k' k'.source b' ws table (rests q).fits.entries (chunks_in (power_in k) k.image) s t.actions) where
        plan : plan_clean (power_in k) n ws (entries_in (power_in k) n ws) (items_of (state_of m)) s ≡ Begin [] (Cleaning k'.source.entries (clean_olds k' k'.source)) acts
        plan = plan-is q ∙ ap (λ (l : List Entry). plan_clean (power_in k) (chunks_in (power_in k) k.image) ws (rests q).fits.entries l s) h.0 ∙ ap (λ (x : ℕ). plan_clean (power_of (size_by x)) (chunks_in (power_in k) k.image) ws (rests q).fits.entries [] s) (sym t.power-same) ∙ h.1.plan

        exactly : Exact Proper state_of Fits (Clean s) m m' bytes bytes table table (R.Begun t.actions)
        unfolding next
        exactly = record {
          answered = rw (opened, power-is, plan) (ap R.Begun t.count);
          became = rw (opened, power-is, plan, (rests q).state) state';
          fits = (
            t.kept ∙ q.0,
            rw (begun-state c k' b') (subst (λ (l : List Action). CleanFits (cleaning c) k' k'.source b' ws table l) (sym h.1.first) h.1.fits, h.1.reads),
          );
        }

      begun : Does (Clean s) (memory m bytes table) (memory_of c' k' b' bytes table) r
      begun = rw (t.report, t.control) (record {
        exact = λ q. exactly q (t.right (rests q).same_bytes (rests q).items (rests q).fits);
        first = passed (R.Begun t.actions);
        image = refl;
        sized = refl;
        outcome = (rw (begun-state c k' b') (ap suc (sym t.count)), refl);
        anyway = rw power-is (inr (acts, ((k'.source.entries, (clean_olds k' k'.source, began)), ap R.Begun t.count)));
      })

    pub cleans : (c' : Control) (k' : Setup) (b' : List ℕ) (r : Report) → Outsets c c' k k' b b' bytes table s r
        → Does (Clean s) (memory m bytes table) (memory_of c' k' b' bytes table) r
    cleans c' k' b' r (inl t) = turned c' k' b' r t
    cleans c' k' b' r (inr t) = begun c' k' b' r t
