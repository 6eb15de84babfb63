-- What a step does, by the state alone: idle, refused with 1, an action, the end. Once for every call that is begun.
-- Assumes nothing.
use mathlib.Core.Path.{◌≡◌, refl, sym, ◌∙◌, ap}
use mathlib.Core.Logic.{inl}
use mathlib.Core.Bool.{Bool, true, false}
use mathlib.Core.Option.{none, some}
use mathlib.Core.List.{List, [], ◌∷◌}
use Prim.Native.Nat.{ℕ, zero, suc, ◌≤◌}
use native.Mathlib.Omega.{arith}
use native.Mathlib.Decide.{ℕ_discrete}
use lib.Dec.{eqb, leb}
use lib.ListN.{length, drop}
use borrow.Author.Tests.{eq-eqb, ne_eqb, leb-true}
use Rattle.spec.specs.Basics.{pick, both}
use Rattle.spec.specs.Words.{words_of}
use Rattle.spec.specs.Medium.{Action, Store, Flush, Fence}
use Rattle.spec.specs.Log.{Entry}
use Rattle.spec.specs.Reports.{as_report, is_refused}
use Rattle.spec.specs.Plans.{Task, Staging, Committing, Cleaning}
use Rattle.spec.specs.Machine.{Step, State, Closed, Rest, Busy, Formatting, items_then, count_of, next_report, step_answer, step_barred, stepped, next, steps_left}
use Rattle.spec.specs.Contract.{Changed, TableKept, Counted, Outcome}
use Rattle.session.specs.declared.Control.{Control}
use Rattle.session.specs.declared.Setup.{Setup}
use Rattle.session.specs.declared.Session.{Session}
use Rattle.spec.specs.declared.Refusal.TheVariants as N
use Rattle.spec.specs.declared.Report.{Report}
use Rattle.spec.specs.declared.Report.TheVariants as R
use Rattle.session.specs.State.{power_in, commit_olds, clean_olds, batch_items, commit_actions, format_actions, clean_actions, block_actions, state_by, state_at, state_of}
use Rattle.session.specs.Fits.{Fits}
use Rattle.actions.proofs.Nth.{report-by}
use Rattle.session.specs.Promise.{Does, memory}
use Rattle.session.specs.Fits.{Proper}

-- NOTHING BEGUN
pub record Idling (σ : State) : Type 0 where
  pub answers : (bytes words : ℕ) → step_answer σ bytes words ≡ R.Idle
  pub bars : (bytes words : ℕ) → step_barred σ bytes words ≡ some R.Idle
  pub stays : stepped σ ≡ σ

-- A CALL BEGUN: its states F, by the actions still to come; the state E that its end leaves; the count n that its end
-- reports. At its begin the image had i bytes and the table t words.
pub record Begun (i t n : ℕ) (E : State) (F : List Action → State) : Type 0 where
  pub answers : (l : List Action) (bytes words : ℕ) → step_answer (F l) bytes words ≡ pick (both (eqb i bytes) (eqb t words)) (next_report n l) (R.Refused N.ImageLength)
  pub bars : (l : List Action) (bytes words : ℕ) → step_barred (F l) bytes words ≡ pick (both (eqb i bytes) (eqb t words)) none (some (R.Refused N.ImageLength))
  pub moves : (a : Action) (l : List Action) → stepped (F (a ∷ l)) ≡ F l
  pub ends : stepped (F []) ≡ E
  pub left : (l : List Action) → steps_left (F l) ≡ suc (length l)
  pub over : steps_left E ≡ 0

pub busy : (p i t : ℕ) (items : List Entry) (task : Task) → Begun i t (count_of task) (Rest p i t (items_then task items)) (Busy p i t items task)
busy p i t items task = record { answers = λ l x y. refl; bars = λ l x y. refl; moves = λ a l. refl; ends = refl; left = λ l. refl; over = refl }

pub formatting : (o : Bool) (i t : ℕ) → Begun i t 0 Closed (Formatting o i t)
formatting o i t = record { answers = λ l x y. refl; bars = λ l x y. refl; moves = λ a l. refl; ends = refl; left = λ l. refl; over = refl }

-- THE STATE BY THE PHASE
-- a record in some begun call
pub record InCall (k : Setup) (σ : State) : Type 0 where
  pub count : ℕ
  pub end : State
  pub states : List Action → State
  pub begun : Begun k.image k.table count end states
  pub todo : List Action
  pub here : σ ≡ states todo

module _ (c : Control) (k : Setup) (b : List ℕ) where
  pub at-2 : c.phase ≡ 2 → state_at c k b ≡ Busy (power_in k) k.image k.table (batch_items c b) Staging (drop c.next (block_actions k b))
  unfolding state_at
  at-2 e = rw e

  pub at-3 : c.phase ≡ 3 → state_at c k b ≡ Busy (power_in k) k.image k.table (batch_items c b) (Committing (commit_olds k)) (drop c.next (commit_actions c k b))
  unfolding state_at
  at-3 e = rw e

  pub at-4 : c.phase ≡ 4 → state_at c k b ≡ Formatting false k.image k.table (drop c.next (format_actions k))
  unfolding state_at
  at-4 e = rw e

  pub at_5 : c.phase ≡ 5 → state_at c k b ≡ Formatting true k.image k.table (drop c.next (format_actions k))
  unfolding state_at
  at_5 e = rw e

  pub at-6 : c.phase ≡ 6 → state_at c k b ≡ Busy (power_in k) k.image k.table [] (Cleaning k.source.entries (clean_olds k k.source)) (drop c.next (clean_actions k k.source b))
  unfolding state_at
  at-6 e = rw e

  closed : Idling Closed
  closed = record { answers = λ x y. refl; bars = λ x y. refl; stays = refl }

  resting : (p i t : ℕ) (items : List Entry) → Idling (Rest p i t items)
  resting p i t items = record { answers = λ x y. refl; bars = λ x y. refl; stays = refl }

  -- the phases that stand for no call
  idle-by : (phase : ℕ) → (2 ≤ phase → phase ≤ 6 → ⊥) → Dec (phase ≡ 1) → Idling (state_by phase c k b)
  idle-by phase h (yes e) = rw e (resting (power_in k) k.image k.table (batch_items c b))
  idle-by phase h (no ne) =
      rw (ne_eqb phase 1 ne, ne_eqb phase 2 (other 2 refl refl), ne_eqb phase 3 (other 3 refl refl), ne_eqb phase 4 (other 4 refl refl), ne_eqb phase 5 (other 5 refl refl), ne_eqb phase 6 (other 6 refl refl)) closed
    where
      other : (n : ℕ) → leb 2 n ≡ true → leb n 6 ≡ true → phase ≡ n → ⊥
      other n l u e = h (rw e (leb-true 2 n l)) (rw e (leb-true n 6 u))

  pub nothing-begun : (2 ≤ c.phase → c.phase ≤ 6 → ⊥) → Idling (state_at c k b)
  unfolding state_at
  nothing-begun h = idle-by c.phase h (ℕ_discrete c.phase 1)

  going : (n : ℕ) (E : State) (F : List Action → State) → Begun k.image k.table n E F → (l : List Action) → InCall k (F l)
  going n E F q l = record { count = n; end = E; states = F; begun = q; todo = l; here = refl }

  call_by : (phase : ℕ) → 2 ≤ phase → phase ≤ 6 → InCall k (state_by phase c k b)
  call_by zero l h = absurd (omega arith)
  call_by (suc zero) l h = absurd (omega arith)
  call_by (suc (suc zero)) l h = going _ _ _ (busy (power_in k) k.image k.table (batch_items c b) Staging) (drop c.next (block_actions k b))
  call_by (suc (suc (suc zero))) l h = going _ _ _ (busy (power_in k) k.image k.table (batch_items c b) (Committing (commit_olds k))) (drop c.next (commit_actions c k b))
  call_by (suc (suc (suc (suc zero)))) l h = going _ _ _ (formatting false k.image k.table) (drop c.next (format_actions k))
  call_by (suc (suc (suc (suc (suc zero))))) l h = going _ _ _ (formatting true k.image k.table) (drop c.next (format_actions k))
  call_by (suc (suc (suc (suc (suc (suc zero)))))) l h = going _ _ _ (busy (power_in k) k.image k.table [] (Cleaning k.source.entries (clean_olds k k.source))) (drop c.next (clean_actions k k.source b))
  call_by (suc (suc (suc (suc (suc (suc (suc n))))))) l h = absurd (omega arith)

  pub in-call : 2 ≤ c.phase → c.phase ≤ 6 → InCall k (state_at c k b)
  unfolding state_at
  in-call l h = call_by c.phase l h

-- WHAT A STEP SHOWS
never : {A : Type 0} (r : Report) → none ≡ some r → A
never r h = absurd (let z : ◌≡◌ {A = ℕ} 0 1 = cc in omega arith)

pub table_kept : (σ : State) (table : List ℕ) → TableKept Proper state_of Fits σ table table
table_kept Closed table = refl
table_kept (Rest p b t items) table = refl
table_kept (Busy p b t items task rest) table = tt
table_kept (Formatting o b t rest) table = refl

module _ (s : Session) (bytes table : List ℕ) where
  pub step-idle : Idling (state_of s) → Does Step (memory s bytes table) (memory s bytes table) R.Idle
  unfolding next
  step-idle q = record {
    exact = λ f. record { answered = sym (q.answers (length bytes) (length table)); became = sym (rw (q.answers (length bytes) (length table)) q.stays); fits = f };
    first = λ r h. let e : some R.Idle ≡ some r = rw (q.bars (length bytes) (length table)) at h in cc;
    image = refl;
    sized = refl;
    outcome = (refl, refl);
    anyway = (sym (q.answers (length bytes) (length table)), sym (rw (q.answers (length bytes) (length table)) q.stays));
  }

  -- the lent lengths are unlike those at the begin
  pub step-refused : InCall s.setup (state_of s) → both (eqb s.setup.image (length bytes)) (eqb s.setup.table (length table)) ≡ false
      → Does Step (memory s bytes table) (memory s bytes table) (R.Refused N.ImageLength)
  unfolding next
  step-refused q unlike = record {
    exact = λ f. record { answered = sym answered; became = sym (rw answered); fits = f };
    first = λ r h. let e : some (R.Refused N.ImageLength) ≡ some r = rw (q.here, q.begun.bars q.todo (length bytes) (length table), unlike) at h in cc;
    image = refl;
    sized = refl;
    outcome = (inl refl, (refl, refl));
    anyway = (sym answered, sym (rw answered));
  }
    where
      answered : step_answer (state_of s) (length bytes) (length table) ≡ R.Refused N.ImageLength
      answered = rw q.here (q.begun.answers q.todo (length bytes) (length table) ∙ rw unlike)

module _ (s s' : Session) (bytes bytes' table table' : List ℕ) (i t n : ℕ) (E : State) (F : List Action → State) (q : Begun i t n E F)
    (same_bytes : i ≡ length bytes) (same-words : t ≡ length table) where
  same : both (eqb i (length bytes)) (eqb t (length table)) ≡ true
  same = rw (eq-eqb i (length bytes) same_bytes, eq-eqb t (length table) same-words)

  reports : (l : List Action) → step_answer (F l) (length bytes) (length table) ≡ next_report n l
  reports l = q.answers l (length bytes) (length table) ∙ rw same

  becomes : (l : List Action) → is_refused (next_report n l) ≡ false → next Step (F l) (words_of bytes) (length bytes) (length table) ≡ stepped (F l)
  unfolding next
  becomes l h = rw (reports l, h)

  passed : (l : List Action) → state_of s ≡ F l → (r r' : Report) → step_barred (state_of s) (length bytes) (length table) ≡ some r' → r ≡ r'
  passed l e r r' h = never r' (rw (e, q.bars l (length bytes) (length table), same) at h)

  accepted : (a : Action) → is_refused (as_report a) ≡ false
  accepted (Store w v) = refl
  accepted (Flush l) = refl
  accepted Fence = refl

  pub step-acts : (a : Action) (l : List Action) → state_of s ≡ F (a ∷ l) → state_of s' ≡ F l → Changed (as_report a) bytes bytes'
      → length table' ≡ length table → TableKept Proper state_of Fits (state_of s) table table'
      → (Fits s (words_of bytes) table → Fits s' (words_of bytes') table') → Does Step (memory s bytes table) (memory s' bytes' table') (as_report a)
  step-acts a l e e' changed sized kept fits = record {
    exact = λ f. record { answered = answered; became = became; fits = fits f };
    first = passed (a ∷ l) e (as_report a);
    image = changed;
    sized = sized;
    outcome = report-by (Outcome Proper state_of Fits Step s s' table table') (λ w v. counted) (λ x. counted) counted a;
    anyway = (answered, became);
  }
    where
      answered : as_report a ≡ step_answer (state_of s) (length bytes) (length table)
      answered = sym (rw e (reports (a ∷ l)))

      became : state_of s' ≡ next Step (state_of s) (words_of bytes) (length bytes) (length table)
      became = e' ∙ sym (rw e (becomes (a ∷ l) (accepted a) ∙ q.moves a l))

      counted : Counted Proper state_of Fits s s' table table'
      counted = (rw (e, e') (q.left (a ∷ l) ∙ ap suc (sym (q.left l))), kept)

  pub step-ends : state_of s ≡ F [] → state_of s' ≡ E → (Fits s (words_of bytes) table → Fits s' (words_of bytes) table)
      → Does Step (memory s bytes table) (memory s' bytes table) (R.End n)
  step-ends e e' fits = record {
    exact = λ f. record { answered = sym (rw e (reports [])); became = e' ∙ sym (rw e (becomes [] refl ∙ q.ends)); fits = fits f };
    first = passed [] e (R.End n);
    image = refl;
    sized = refl;
    outcome = ((rw (e, e') (q.left [] ∙ ap suc (sym q.over)), table_kept (state_of s) table), rw e' q.over);
    anyway = (sym (rw e (reports [])), e' ∙ sym (rw e (becomes [] refl ∙ q.ends)));
  }
