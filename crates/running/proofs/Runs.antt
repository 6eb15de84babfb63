-- What the code of a cleaning's run shows: each store is a step, and so is the action behind them; the action before
-- the last is none.
-- Assumes nothing.
use mathlib.Core.Path.{◌≡◌, refl, sym, ◌∙◌, ap, subst}
use mathlib.Core.Logic.{by_cases}
use mathlib.Core.Bool.{true, false}
use mathlib.Core.List.{List}
use Prim.Native.Nat.{ℕ, zero, suc, ◌+◌, ◌-◌, ◌*◌, ◌≤◌, ◌<◌, min}
use native.Mathlib.Omega.{arith}
use native.Mathlib.Decide.{ℕ_discrete}
use lib.ListN.{length}
use Rattle.spec.specs.Places.{base}
use Rattle.spec.specs.Medium.{Action}
use Rattle.spec.specs.Actions.{lines_for}
use Rattle.spec.specs.Reports.{as_report}
use Rattle.spec.specs.Machine.{Step, steps_left}
use Rattle.spec.specs.Contract.{Changed}
use Rattle.buffer.specs.Areas.{second_start, second_room}
use Rattle.session.specs.declared.Control.{Control}
use Rattle.session.specs.declared.Setup.{Setup}
use Rattle.session.specs.declared.Session.{Session}
use Rattle.spec.specs.declared.Report.{Report}
use Rattle.spec.specs.declared.Report.TheVariants as R
use Rattle.theory_base.proofs.Lists.{not-both}
use Rattle.words.specs.Image.{Saved}
use Rattle.session.specs.State.{size_in, power_in, buffer_part, chunk_in, lines_in, clean_actions, state_of}
use Rattle.actions.specs.Nth.{nth_report}
use Rattle.actions.proofs.Appending.{lines-of, word-inside, shows-store}
use Rattle.actions.proofs.Performed.{changed-length, changed-store}
use Rattle.actions.specs.Record.{copy_count, clean_count}
use Rattle.actions.proofs.Acting.{count-some, shows-copy, clean-flush}
use Rattle.stepping.specs.Ends.{acted}
use Rattle.stepping.proofs.CleanShows.{shows-acts}
use Rattle.running.specs.Run.{Runs, RunsOn, is_store}
use Rattle.stepping.proofs.Cleaning.{cleans}
use Rattle.running.specs.Stores.{area_word, Filled}
use Rattle.running.proofs.Run.{stored-first, store_is}
use Rattle.running.proofs.Stores.{before-none, filled-length, filled_runs}
use Rattle.running.specs.Copying.{Copying, CleaningRun, KeptStores}
use Rattle.session.specs.Promise.{Does, memory, memory_of}
use Rattle.session.specs.Numbers.{at_action, in_phase}

-- the record after an action
counted : (c : Control) → c.phase ≡ 6 → acted c c.keys ≡ at_action (c.next + 1) c
counted c e = ap (λ (p : ℕ). in_phase p (c.next + 1) c) (sym e)

-- ONE ACTION that is not the last
module _ (c : Control) (k : Setup) (b bytes bytes' table : List ℕ) (h : Copying c k (length bytes) (length table)) where
  abbrev Stepping : Report → Control → Type 0
  Stepping r x = Does Step (memory_of c k b bytes table) (memory_of x k b bytes' table) r

  acts-once : (r : Report) → r ≡ nth_report (clean_actions k k.source b) c.next → Changed r bytes bytes' → Stepping r (at_action (c.next + 1) c)
  acts-once r e changed =
      subst (Stepping r) (counted c h.0)
      (cleans c k b bytes table h.0 h.1.0 h.1.1.0 (acted c c.keys) b bytes' table r (shows-acts c k k.source b bytes table bytes' r e changed h.1.1.1))

-- SEVERAL
-- stores up to action n are made, from the next one on: with whatever run follows they are one
pub record StoredTo (c : Control) (k : Setup) (b bytes bytes' : List ℕ) (n : ℕ) : Type 0 where
  pub sized : length bytes' ≡ length bytes
  pub from : c.next ≤ n
  pub stores : (i : ℕ) → c.next ≤ i → i < n → is_store (nth_report (clean_actions k k.source b) i) ≡ true
  pub run : (table : List ℕ) → Copying c k (length bytes) (length table) → (s' : Session) (bytes'' table'' : List ℕ) (r : Report)
      → Runs (memory_of (at_action n c) k b bytes' table) (memory s' bytes'' table'') r
      → Runs (memory_of c k b bytes table) (memory s' bytes'' table'') r

module _ (c : Control) (k : Setup) (b bytes : List ℕ) where
  abbrev acts : List Action
  acts = clean_actions k k.source b

  pub none-stored : StoredTo c k b bytes bytes c.next
  none-stored = record { sized = refl; from = omega arith; stores = λ i l u. absurd (omega arith); run = λ table h s' bytes'' table'' r q. q }

  module _ (bytes₁ : List ℕ) (n : ℕ) (so_far : StoredTo c k b bytes bytes₁ n) (inside : n + 1 < clean_count k.source.words)
      (bytes₂ : List ℕ) (r : Report) (e : r ≡ nth_report acts n) (changed : Changed r bytes₁ bytes₂) where
    still : (table : List ℕ) → Copying c k (length bytes) (length table) → Copying (at_action n c) k (length bytes₁) (length table)
    still table h = (h.0, (h.1.0 ∙ sym so_far.sized, (h.1.1.0, inside)))

    stepped : (table : List ℕ) → Copying c k (length bytes) (length table)
        → Does Step (memory_of (at_action n c) k b bytes₁ table) (memory_of (at_action (n + 1) c) k b bytes₂ table) r
    stepped table h = acts-once (at_action n c) k b bytes₁ bytes₂ table (still table h) r e changed

    pub one-stored : is_store r ≡ true → StoredTo c k b bytes bytes₂ (n + 1)
    one-stored t =
        let w = store_is r t in
        record {
          sized = changed-length r bytes₁ bytes₂ changed ∙ so_far.sized;
          from = let f = so_far.from in omega arith;
          stores = λ i l u. by_cases (ℕ_discrete i n) (λ q. ap (λ (x : ℕ). is_store (nth_report acts x)) q ∙ ap is_store (sym e) ∙ t) (λ q. so_far.stores i l (omega arith));
          run = λ table h s' bytes'' table'' r' q. so_far.run table h s' bytes'' table'' r' (stored-first (rw w.1.1 at (stepped table h)) q);
        }

    pub run_ends : is_store r ≡ false → CleaningRun c k b bytes bytes₂ (n + 1) r
    run_ends t = record {
      sized = changed-length r bytes₁ bytes₂ changed ∙ so_far.sized;
      runs = λ table h. (so_far.run table h _ bytes₂ table r (zero, stepped table h), t);
    }

  -- the action before the last is a flush: not all up to the last are stores
  pub never-all : (bytes₁ : List ℕ) (n : ℕ) (r : Report) → StoredTo c k b bytes bytes₁ n → clean_count k.source.words ≤ n + 1 → CleaningRun c k b bytes bytes₁ n r
  never-all bytes₁ n r so_far h = record {
    sized = so_far.sized;
    runs = λ table q.
        absurd
        (let l = q.1.1.1 in
        not-both (is_store (nth_report acts (clean_count k.source.words - 2)))
        (so_far.stores (clean_count k.source.words - 2) (omega arith) (omega arith))
        (ap (λ (x : Action). is_store (as_report x)) (clean-flush k k.source b (clean_count k.source.words - 2) (omega arith))));
  }

-- THE KEPT WORDS first
module _ (c : Control) (k : Setup) (b bytes : List ℕ) where
  pub kept-none : KeptStores c k b bytes bytes c.next
  kept-none = record { made = before-none Copying c k b bytes; before_last = λ h. h }

  -- action number j stores word j of those kept
  kept_store : (j w : ℕ) → j < min k.source.words second_room → w ≡ base (power_in k) (chunk_in k) + 8 * lines_in k + j → R.Store w (area_word b j) ≡ nth_report (clean_actions k k.source b) j
  kept_store j w l e =
      let kept : ℕ = min k.source.words second_room in
      let some : k.source.words ≡ 0 → ⊥ = λ z. omega arith in
      let n = count-some k.source.words some in
      shows-copy k k.source b (R.Store w (area_word b j)) j (copy_count k.source.words) refl (omega arith)
      (shows-store k (buffer_part b second_start kept) j (lines_for kept) (lines-of b second_start kept _ refl) (size_in k) refl w (area_word b j) (omega arith) e (word-inside b second_start kept j (second_start + j) l refl))

  module _ (start kept : ℕ) (es : start ≡ base (power_in k) (chunk_in k) + 8 * lines_in k) (ek : kept ≡ min k.source.words second_room) (l : c.next < kept) where
    inside : (j : ℕ) → j < kept → j + 1 < clean_count k.source.words
    inside j h = let some : k.source.words ≡ 0 → ⊥ = λ z. omega arith in let n = count-some k.source.words some in omega arith

    stepped_kept : (table : List ℕ) → Copying c k (length bytes) (length table) → (j : ℕ) → j < kept → (bytes₁ bytes₂ : List ℕ) → length bytes₁ ≡ length bytes → Saved bytes₁ bytes₂ (start + j) (area_word b j)
        → Does Step (memory_of (at_action j c) k b bytes₁ table) (memory_of (at_action (suc j) c) k b bytes₂ table) (R.Store (start + j) (area_word b j))
    stepped_kept table h j u bytes₁ bytes₂ el saved =
        let n : j + 1 ≡ suc j = omega arith in
        subst (λ (x : ℕ). Does Step (memory_of (at_action j c) k b bytes₁ table) (memory_of (at_action x c) k b bytes₂ table) (R.Store (start + j) (area_word b j))) n
        (acts-once (at_action j c) k b bytes₁ bytes₂ table (h.0, (h.1.0 ∙ sym el, (h.1.1.0, inside j u))) _ (kept_store j (start + j) (omega arith) (omega arith)) (changed-store _ bytes₁ bytes₂ _ _ refl saved))

    pub kept-stored : (bytes' : List ℕ) → Filled (area_word b) start c.next (kept - c.next) bytes bytes' → KeptStores c k b bytes bytes' kept
    kept-stored bytes' f = record {
      made = record {
        sized = filled-length (area_word b) start (kept - c.next) c.next bytes bytes' f;
        run = λ table h s' bytes'' table'' r q.
            filled_runs (λ j. at_action j c) k b table (area_word b) start (length bytes) (kept - c.next) c.next kept bytes bytes' f (omega arith) (λ j a d. stepped_kept table h j d) refl s' bytes'' table'' r q;
      };
      before_last = λ h. last;
    }
      where
        last : kept + 1 < clean_count k.source.words
        last = let some : k.source.words ≡ 0 → ⊥ = λ z. omega arith in let n = count-some k.source.words some in omega arith

  -- and then the run of what is left
  pub copies : (bytes₁ bytes₂ : List ℕ) (n next : ℕ) (r : Report) → KeptStores c k b bytes bytes₁ n → CleaningRun (at_action n c) k b bytes₁ bytes₂ next r → CleaningRun c k b bytes bytes₂ next r
  copies bytes₁ bytes₂ n next r kept more = record {
    sized = more.sized ∙ kept.made.sized;
    runs = λ table h.
        let q = more.runs table (h.0, (h.1.0 ∙ sym kept.made.sized, (h.1.1.0, kept.before_last h.1.1.1))) in
        (kept.made.run table h _ bytes₂ table r q.0, q.1);
  }

-- ANY STEPS: those made so far each stored a word, so that with whatever run follows they are one
pub record Stored (s s₁ : Session) (bytes bytes₁ table table₁ : List ℕ) : Type 0 where
  pub sized : length bytes₁ ≡ length bytes
  pub tabled : length table₁ ≡ length table
  pub run : (s' : Session) (bytes'' table'' : List ℕ) (r : Report) → Runs (memory s₁ bytes₁ table₁) (memory s' bytes'' table'') r → Runs (memory s bytes table) (memory s' bytes'' table'') r

pub none_made : (s : Session) (bytes table : List ℕ) → Stored s s bytes bytes table table
none_made s bytes table = record { sized = refl; tabled = refl; run = λ s' bytes'' table'' r q. q }

module _ (s s₁ s₂ : Session) (bytes bytes₁ bytes₂ table table₁ table₂ : List ℕ) (r : Report) (so_far : Stored s s₁ bytes bytes₁ table table₁)
    (step : Does Step (memory s₁ bytes₁ table₁) (memory s₂ bytes₂ table₂) r) where
  pub long : length bytes₂ ≡ length bytes
  long = changed-length r bytes₁ bytes₂ step.image ∙ so_far.sized

  pub wide : length table₂ ≡ length table
  wide = step.sized ∙ so_far.tabled

  -- one that stored is one more, and one step fewer is left
  pub one-made : is_store r ≡ true → Stored s s₂ bytes bytes₂ table table₂
  one-made t =
      let w = store_is r t in
      record { sized = long; tabled = wide; run = λ s' bytes'' table'' r' q. so_far.run s' bytes'' table'' r' (stored-first (rw w.1.1 at step) q) }

  pub fewer : is_store r ≡ true → steps_left (state_of s₁) ≡ suc (steps_left (state_of s₂))
  fewer t = let w = store_is r t in (rw w.1.1 at step.outcome).0

  -- one that did not is the last
  pub made : is_store r ≡ false → RunsOn (memory s bytes table) (memory s₂ bytes₂ table₂) r
  made t = (so_far.run s₂ bytes₂ table₂ r (zero, step), t)
