-- What the code of the fast path shows inside a commit is what its contracts say: one action that is not the last, and
-- several with the stores before it.
-- Assumes nothing.
use mathlib.Core.Path.{◌≡◌, refl, sym, ◌∙◌, ap, subst}
use mathlib.Core.Bool.{false}
use mathlib.Core.List.{List}
use Prim.Native.Nat.{ℕ, zero, ◌+◌, ◌-◌, ◌*◌, ◌/◌, ◌≤◌, ◌<◌, min}
use native.Mathlib.Omega.{arith}
use native.Mathlib.Decide.{dec_lt, ℕ_discrete}
use lib.ListN.{length, get_or}
use Rattle.spec.specs.Places.{base, first_line}
use Rattle.spec.specs.declared.Size.{Size}
use Rattle.places.specs.Sizes.{power_of}
use Rattle.spec.specs.Medium.{Action}
use Rattle.spec.specs.Actions.{lines_for, padded}
use Rattle.spec.specs.Directory.{log_word}
use Rattle.spec.specs.Reports.{as_report}
use Rattle.spec.specs.Machine.{Step}
use Rattle.spec.specs.Contract.{Changed}
use Rattle.session.specs.declared.Control.{Control}
use Rattle.session.specs.declared.Setup.{Setup}
use Rattle.spec.specs.declared.Report.{Report}
use Rattle.spec.specs.declared.Report.TheVariants as R
use Rattle.words.specs.Image.{Saved}
use Rattle.buffer.specs.Areas.{batch_room}
use Rattle.session.specs.State.{size_in, power_in, buffer_part, batch_words, chunk_in, lines_in, commit_actions}
use Rattle.actions.specs.Nth.{nth_report, commit_count}
use Rattle.session.proofs.Part.{staged-length}
use Rattle.actions.proofs.Appending.{word-inside, word-behind, shows-flush, shows-fence, shows-seal}
use Rattle.actions.proofs.Committing.{commit-flush, commit-fence, commit-seal, commit-seal-flush}
use Rattle.actions.proofs.Performed.{changed-store, changed-length}
use Rattle.stepping.proofs.Keeping.{acted}
use Rattle.stepping.proofs.Shows.{commit-acts, commit-stores}
use Rattle.running.specs.Run.{is_store, RunsOn}
use Rattle.running.specs.Fast.{FastStep, StoresTo, Stores}
use Rattle.running.proofs.Run.{stored-first}
use Rattle.running.proofs.Stores.{before-none}
use Rattle.session.specs.Promise.{Does, memory_of}
use Rattle.session.specs.Numbers.{at_action, in_phase}

-- the record after an action
counted : (c : Control) → c.phase ≡ 3 → acted c c.keys c.fresh ≡ at_action (c.next + 1) c
counted c e = ap (λ (p : ℕ). in_phase p (c.next + 1) c) (sym e)

-- ONE ACTION
module _ (c : Control) (k : Setup) (b bytes bytes' table : List ℕ) (h : FastStep c k (length bytes) (length table)) where
  abbrev Stepping : Report → Control → Type 0
  Stepping r x = Does Step (memory_of c k b bytes table) (memory_of x k b bytes' table) r

  pub fast-acts : (r : Report) → r ≡ nth_report (commit_actions c k b) c.next → Changed r bytes bytes' → Stepping r (at_action (c.next + 1) c)
  fast-acts r e changed = subst (Stepping r) (counted c h.0) (commit-acts c k b bytes table h.1.0 h.1.1.0 h.0 bytes' r e changed h.1.1.1)

  pub fast-stores : (w v : ℕ) → c.next < 8 * lines_for (min c.words batch_room) → w ≡ base (power_in k) (chunk_in k) + 8 * lines_in k + c.next
      → v ≡ get_or (padded (buffer_part b 0 (min c.words batch_room))) c.next 0 → Saved bytes bytes' w v → Stepping (R.Store w v) (at_action (c.next + 1) c)
  fast-stores w v l ew ev saved = subst (Stepping (R.Store w v)) (counted c h.0) (commit-stores c k b bytes table h.1.0 h.1.1.0 h.0 bytes' w v l ew ev saved)

-- SEVERAL
-- a commit's actions, whichever of them is the next
acts-same : (c : Control) (k : Setup) (b : List ℕ) (n : ℕ) → commit_actions (at_action n c) k b ≡ commit_actions c k b
unfolding commit_actions batch_words
acts-same c k b n = refl

-- behind the batch's words only one action is a store, the third from the end
no_store : (c : Control) (k : Setup) (b : List ℕ) (n : ℕ) → 8 * lines_for (min c.words batch_room) ≤ n → (n + 3 ≡ commit_count c.words → ⊥) → n + 1 < commit_count c.words
    → is_store (nth_report (commit_actions c k b) n) ≡ false
no_store c k b n behind unsealed l = go (dec_lt n (9 * lines_for (min c.words batch_room))) (ℕ_discrete n (9 * lines_for (min c.words batch_room)))
  where
    go : Dec (n < 9 * lines_for (min c.words batch_room)) → Dec (n ≡ 9 * lines_for (min c.words batch_room)) → is_store (nth_report (commit_actions c k b) n) ≡ false
    go (yes h) d = ap (λ (x : Action). is_store (as_report x)) (commit-flush c k b n (n - 8 * lines_for (min c.words batch_room)) _ (omega arith) (omega arith) refl)
    go (no h) (yes e) = ap (λ (x : Action). is_store (as_report x)) (commit-fence c k b n e)
    go (no h) (no e) = ap (λ (x : Action). is_store (as_report x)) (commit-seal-flush c k b n (omega (arith, unsealed)))

module _ (c : Control) (k : Setup) (b bytes : List ℕ) where
  -- before a run, no store is made
  pub no_stores : StoresTo c k b bytes bytes c.next
  no_stores = record { made = before-none FastStep c k b bytes; before_last = λ h. h }

  pub none_yet : (n : ℕ) → c.next ≡ n → StoresTo c k b bytes bytes n
  none_yet n e = subst (StoresTo c k b bytes bytes) e no_stores

  module _ (bytes₁ : List ℕ) (n : ℕ) (so_far : StoresTo c k b bytes bytes₁ n) where
    still : (table : List ℕ) → FastStep c k (length bytes) (length table) → FastStep (at_action n c) k (length bytes₁) (length table)
    still table h = (h.0, (h.1.0 ∙ sym so_far.made.sized, (h.1.1.0, so_far.before_last h.1.1.1)))

    -- one more
    pub one_more : (bytes₂ : List ℕ) (start v : ℕ) → n < 8 * lines_for (min c.words batch_room) → start ≡ base (power_in k) (chunk_in k) + 8 * lines_in k
        → v ≡ get_or (padded (buffer_part b 0 (min c.words batch_room))) n 0 → Saved bytes₁ bytes₂ (start + n) v → StoresTo c k b bytes bytes₂ (n + 1)
    one_more bytes₂ start v l es ev saved = record {
      made = record {
        sized = saved.size ∙ so_far.made.sized;
        run = λ table h s' bytes'' table'' r q.
            so_far.made.run table h s' bytes'' table'' r (stored-first (fast-stores (at_action n c) k b bytes₁ bytes₂ table (still table h) (start + n) v l (omega arith) ev saved) q);
      };
      before_last = λ h. omega arith;
    }

    -- a staged word, or a zero behind them
    module _ (bytes₂ : List ℕ) (start staged v : ℕ) (es : staged ≡ min c.words batch_room) (eb : start ≡ base (power_in k) (chunk_in k) + 8 * lines_in k) (saved : Saved bytes₁ bytes₂ (start + n) v) where
      pub one_word : n < staged → v ≡ get_or b n 0 → StoresTo c k b bytes bytes₂ (n + 1)
      one_word l ev = one_more bytes₂ start v (omega arith) eb (ev ∙ word-inside b 0 (min c.words batch_room) n n (omega arith) (omega arith)) saved

      pub one-zero : staged ≤ n → n < 8 * lines_for staged → v ≡ 0 → StoresTo c k b bytes bytes₂ (n + 1)
      one-zero l m ev = one_more bytes₂ start v (omega arith) eb (ev ∙ word-behind b 0 (min c.words batch_room) n (omega arith)) saved

    -- then an action that is none, whose report is told
    pub run-acts : 8 * lines_for (min c.words batch_room) ≤ n → (n + 3 ≡ commit_count c.words → ⊥) → (bytes₂ table : List ℕ) (r : Report) → r ≡ nth_report (commit_actions c k b) n → Changed r bytes₁ bytes₂
        → FastStep c k (length bytes) (length table)
        → RunsOn (memory_of c k b bytes table) (memory_of (at_action (n + 1) c) k b bytes₂ table) r
    run-acts behind unsealed bytes₂ table r e changed h = (
      so_far.made.run table h _ bytes₂ table r (zero, fast-acts (at_action n c) k b bytes₁ bytes₂ table (still table h) r (e ∙ ap (λ (l : List Action). nth_report l n) (sym (acts-same c k b n))) changed),
      ap is_store e ∙ no_store c k b n behind unsealed (so_far.before_last h.1.1.1),
    )

    -- the store of the directory word is one more
    pub sealed : (bytes₂ : List ℕ) (r : Report) → n + 3 ≡ commit_count c.words → r ≡ nth_report (commit_actions c k b) n → Changed r bytes₁ bytes₂ → StoresTo c k b bytes bytes₂ (n + 1)
    sealed bytes₂ r last e changed = record {
      made = record {
        sized = changed-length r bytes₁ bytes₂ changed ∙ so_far.made.sized;
        run = λ table h s' bytes'' table'' r' q.
            so_far.made.run table h s' bytes'' table'' r'
            (stored-first (fast-acts (at_action n c) k b bytes₁ bytes₂ table (still table h) _ (ap as_report (sym (commit-seal c k b n last)) ∙ ap (λ (l : List Action). nth_report l n) (sym (acts-same c k b n)))
            (subst (λ (x : Report). Changed x bytes₁ bytes₂) (e ∙ ap as_report (commit-seal c k b n last)) changed)) q);
      };
      before_last = λ h. omega arith;
    }

-- A RUN, with the number of lines that the batch takes: by what comes next
module _ (c : Control) (k : Setup) (b bytes : List ℕ) (lines : ℕ) (es : lines ≡ lines_for (min c.words batch_room)) (table : List ℕ) (h : FastStep c k (length bytes) (length table)) where
  abbrev Running : (n : ℕ) (bytes' : List ℕ) → Report → Type 0
  Running n bytes' r = RunsOn (memory_of c k b bytes table) (memory_of (at_action n c) k b bytes' table) r

  sized : lines ≡ lines_for (length (batch_words c b))
  sized = es ∙ ap lines_for (sym (staged-length c b))

  -- the first fence
  pub run-fence : c.next ≡ 9 * lines → Running (c.next + 1) bytes R.Fence
  unfolding commit_actions
  run-fence e = run-acts c k b bytes bytes c.next (no_stores c k b bytes) (omega arith) (λ q. omega arith) bytes table R.Fence (shows-fence k (batch_words c b) c.next lines sized e) refl h

  -- the directory word, and its line
  pub run-seal : (bytes' : List ℕ) (w v then line : ℕ) → c.next ≡ 9 * lines + 1 → w ≡ 8 + chunk_in k → then ≡ lines_in k + lines → v ≡ log_word k.old then
      → Saved bytes bytes' w v → line ≡ (8 + chunk_in k) / 8 → Running (c.next + 2) bytes' (R.Flush line)
  unfolding commit_actions
  run-seal bytes' w v then line e ew el ev saved eq =
      let two : c.next + 1 + 1 ≡ c.next + 2 = omega arith in
      let first : c.next - (9 * lines + 1) ≡ 0 = omega arith in
      let second : c.next + 1 - (9 * lines + 1) ≡ 1 = omega arith in
      subst (λ (n : ℕ). Running n bytes' (R.Flush line)) two
      (run-acts c k b bytes bytes' (c.next + 1)
      (sealed c k b bytes bytes c.next (no_stores c k b bytes) bytes' (R.Store w v) (omega arith) (shows-seal k (batch_words c b) c.next lines sized (R.Store w v) v then (omega arith) el ev (rw (first, ew) refl)) (changed-store (R.Store w v) bytes bytes' w v refl saved))
      (omega arith) (λ q. omega arith) bytes' table (R.Flush line) (shows-seal k (batch_words c b) (c.next + 1) lines sized (R.Flush line) v then (omega arith) el ev (rw (second, eq) refl)) refl h)

  -- its line
  pub run-seal-flush : (line : ℕ) → c.next ≡ 9 * lines + 2 → line ≡ (8 + chunk_in k) / 8 → Running (c.next + 1) bytes (R.Flush line)
  unfolding commit_actions
  run-seal-flush line e eq =
      let second : c.next - (9 * lines + 1) ≡ 1 = omega arith in
      run-acts c k b bytes bytes c.next (no_stores c k b bytes) (omega arith) (λ q. omega arith) bytes table (R.Flush line) (shows-seal k (batch_words c b) c.next lines sized (R.Flush line) _ (lines_in k + lines) (omega arith) refl refl (rw (second, eq) refl)) refl h

  -- the batch's words, and the line that is flushed next
  pub run-batch : (size : Size) → size ≡ size_in k → (bytes' : List ℕ) (n line : ℕ) → Stores c k b bytes bytes' n → c.next < 9 * lines → line ≡ first_line (power_of size) (chunk_in k) + lines_in k + (n - 8 * lines) → Running (n + 1) bytes' (R.Flush line)
  unfolding commit_actions
  run-batch size z bytes' n line s l el =
      let m = s.1 in
      run-acts c k b bytes bytes' n s.0 (omega arith) (λ q. omega arith) bytes' table (R.Flush line) (shows-flush k (batch_words c b) n lines sized size z line (omega arith) (omega arith) el) refl h
