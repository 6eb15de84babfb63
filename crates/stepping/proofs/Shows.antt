-- What the code of a step shows at each return is what the contract says.
-- Assumes nothing.
use mathlib.Core.Path.{◌≡◌, refl, sym, ◌∙◌, ap}
use mathlib.Core.Bool.{Bool, true, false}
use mathlib.Core.List.{List, [], ◌∷◌}
use Prim.Native.Nat.{ℕ, ◌+◌, ◌*◌, ◌≤◌, ◌<◌, min}
use native.Mathlib.Omega.{arith}
use native.Mathlib.Decide.{ℕ_discrete}
use lib.Dec.{eqb}
use lib.ListN.{length, get_or, drop}
use borrow.Author.Tests.{eq-eqb, ne_eqb}
use Rattle.spec.specs.Basics.{both}
use Rattle.spec.specs.Places.{base}
use Rattle.spec.specs.Words.{words_of}
use Rattle.spec.specs.Medium.{Action}
use Rattle.spec.specs.Actions.{lines_for, padded}
use Rattle.spec.specs.Reports.{as_report, words_after, run_words}
use Rattle.spec.specs.Plans.{Staging, Committing}
use Rattle.spec.specs.Machine.{Step, State, Closed, Rest, Busy, Formatting}
use Rattle.spec.specs.Contract.{Changed}
use Rattle.session.specs.declared.Control.{Control}
use Rattle.session.specs.declared.Setup.{Setup}
use Rattle.session.specs.declared.Session.{Session}
use Rattle.spec.specs.declared.Refusal.TheVariants as N
use Rattle.spec.specs.declared.Report.{Report}
use Rattle.spec.specs.declared.Report.TheVariants as R
use Rattle.words.specs.Image.{Saved}
use Rattle.buffer.specs.Areas.{batch_room}
use Rattle.session.specs.State.{size_in, power_in, commit_olds, buffer_part, batch_words, batch_items, chunk_in, lines_in, commit_actions, format_actions, block_actions, state_at}
use Rattle.session.specs.Fits.{CommitFits, TaskFits, Reads, Fits}
use Rattle.session.proofs.Kept.{words-kept, same-items, same-acts, end_kept, staging-kept, reads_kept}
use Rattle.actions.specs.Nth.{nth, nth_report, commit_count, format_count}
use Rattle.actions.proofs.Nth.{drop_nth, drop_past}
use Rattle.actions.proofs.Appending.{lines-of, shows-store}
use Rattle.actions.proofs.Committing.{commit-next, commit-done, commit-last}
use Rattle.actions.proofs.Formatting.{format-next, format-done}
use Rattle.actions.proofs.Performed.{changed-store, changed-words}
use Rattle.forward.proofs.Steps.{rest-same}
use Rattle.apply.specs.Joining.{Joining}
use Rattle.actions.proofs.States.{busy, formatting, at-2, at-3, at-4, at_5, nothing-begun, in-call, table_kept, step-idle, step-refused, step-acts, step-ends}
use Rattle.stepping.proofs.Keeping.{acted, action-kept, last-kept}
use Rattle.session.specs.Promise.{Does, memory}
use Rattle.session.specs.Numbers.{closed, ended_empty, at_action, in_phase, ended}

-- NOTHING BEGUN, and lengths unlike those at the begin
module _ (c : Control) (k : Setup) (b bytes table : List ℕ) where
  abbrev same : Session
  same = record { control = c; setup = k; buffer = b }

  pub idles : (2 ≤ c.phase → c.phase ≤ 6 → ⊥) → Does Step (memory same bytes table) (memory same bytes table) R.Idle
  idles h = step-idle same bytes table (nothing-begun c k b h)

  pub turned_down : 2 ≤ c.phase → c.phase ≤ 6 → (k.image ≡ length bytes → k.table ≡ length table → ⊥) → Does Step (memory same bytes table) (memory same bytes table) (R.Refused N.ImageLength)
  turned_down l h unlike = step-refused same bytes table (in-call c k b l h) (go (ℕ_discrete k.image (length bytes)) (ℕ_discrete k.table (length table)))
    where
      go : Dec (k.image ≡ length bytes) → Dec (k.table ≡ length table) → both (eqb k.image (length bytes)) (eqb k.table (length table)) ≡ false
      go (no n) d = rw (ne_eqb k.image (length bytes) n)
      go (yes e) (no n) = rw (eq-eqb k.image (length bytes) e, ne_eqb k.table (length table) n)
      go (yes e) (yes q) = absurd (unlike e q)

module _ (c : Control) (k : Setup) (b bytes table : List ℕ) (same_bytes : k.image ≡ length bytes) (same-words : k.table ≡ length table) where
  abbrev s : Session
  s = record { control = c; setup = k; buffer = b }

  abbrev with' : Control → List ℕ → Session
  with' c' b' = record { control = c'; setup = k; buffer = b' }

  -- STAGING
  -- after an action of one
  abbrev pub stored : Control
  stored = in_phase 2 (c.next + 1) c

  module _ (e : c.phase ≡ 2) where
    abbrev S : List Action → State
    S = Busy (power_in k) k.image k.table (batch_items c b) Staging

    pub staging-ends : length (block_actions k b) ≤ c.next → Does Step (memory s bytes table) (memory (with' (ended c) b) bytes table) (R.End 0)
    unfolding state_at batch_items batch_words
    staging-ends h =
        step-ends s (with' (ended c) b) bytes bytes table table k.image k.table 0 (Rest (power_in k) k.image k.table (batch_items c b)) S (busy (power_in k) k.image k.table (batch_items c b) Staging)
        same_bytes same-words last refl (λ f. (f.0, staging-kept c k b (words_of bytes) table (batch_items c b) (rw last at f.1).0))
      where
        last : state_at c k b ≡ S []
        last = at-2 c k b e ∙ ap S (drop_past (block_actions k b) c.next h)

    pub staging-acts : (bytes' : List ℕ) (r : Report) → c.next < length (block_actions k b) → r ≡ nth_report (block_actions k b) c.next → Changed r bytes bytes'
        → Does Step (memory s bytes table) (memory (with' stored b) bytes' table) r
    unfolding batch_items batch_words
    staging-acts bytes' r h er changed =
        rw er
        (step-acts s (with' stored b) bytes bytes' table table k.image k.table 0 (Rest (power_in k) k.image k.table (batch_items c b)) S (busy (power_in k) k.image k.table (batch_items c b) Staging) same_bytes same-words
        now' rest here after done refl (table_kept (state_at c k b) table) fits)
      where
        now' : Action
        now' = nth (block_actions k b) c.next

        rest : List Action
        rest = drop (c.next + 1) (block_actions k b)

        here : state_at c k b ≡ S (now' ∷ rest)
        here = at-2 c k b e ∙ ap S (drop_nth (block_actions k b) c.next h)

        after : state_at stored k b ≡ S rest
        after = at-2 stored k b refl

        done : Changed (as_report now') bytes bytes'
        done = rw er at changed

        fits : Fits s (words_of bytes) table → Fits (with' stored b) (words_of bytes') table
        fits f =
            let g : TaskFits Staging s (batch_items c b) (now' ∷ rest) (words_of bytes) table × Reads s [] (now' ∷ rest) (words_of bytes) table = rw here at f.1 in (
              f.0,
              rw (after, changed-words (as_report now') bytes bytes' done) (
                rest-same c stored k b table (batch_items c b) (refl, refl, refl, refl) (run_words rest (words_after (as_report now') (words_of bytes))) g.0,
                reads_kept c stored k b table (words_of bytes) [] now' rest refl g.1,
              ),
            )

  -- COMMIT
  module _ (e : c.phase ≡ 3) where
    abbrev acts : List Action
    acts = commit_actions c k b

    abbrev F : List Action → State
    F = Busy (power_in k) k.image k.table (batch_items c b) (Committing (commit_olds k))

    abbrev act : Action
    act = nth acts c.next

    here : c.next < commit_count c.words → state_at c k b ≡ F (act ∷ drop (c.next + 1) acts)
    here h = at-3 c k b e ∙ ap F (commit-next c k b c.next h)

    behind : (c' : Control) (b' : List ℕ) → c'.phase ≡ 3 → c'.next ≡ c.next + 1 → batch_words c' b' ≡ batch_words c b → state_at c' k b' ≡ F (drop (c.next + 1) acts)
    behind c' b' p n w = rw (at-3 c' k b' p, same-items c c' b b' w, same-acts c c' k b b' w, n)

    as-staged : batch_words (acted c c.keys c.fresh) b ≡ batch_words c b
    unfolding batch_words
    as-staged = refl

    module _ (bytes' : List ℕ) (r : Report) (er : r ≡ nth_report acts c.next) (changed : Changed r bytes bytes') where
      done : Changed (as_report act) bytes bytes'
      done = rw er at changed

      words : words_of bytes' ≡ words_after (as_report act) (words_of bytes)
      words = changed-words (as_report act) bytes bytes' done

      -- an action that is not the last
      pub commit-acts : c.next + 1 < commit_count c.words → Does Step (memory s bytes table) (memory (with' (acted c c.keys c.fresh) b) bytes' table) r
      commit-acts h =
          rw er
          (step-acts s s' bytes bytes' table table k.image k.table 0 (Rest (power_in k) k.image k.table []) F (busy (power_in k) k.image k.table (batch_items c b) (Committing (commit_olds k))) same_bytes same-words
          act (drop (c.next + 1) acts) (here (omega arith)) after done refl (table_kept (state_at c k b) table) fits)
        where
          s' : Session
          s' = with' (acted c c.keys c.fresh) b

          after : state_at (acted c c.keys c.fresh) k b ≡ F (drop (c.next + 1) acts)
          after = behind (acted c c.keys c.fresh) b refl refl as-staged

          more : drop (c.next + 1) acts ≡ nth acts (c.next + 1) ∷ drop (c.next + 1 + 1) acts
          more = commit-next c k b (c.next + 1) h

          fits : Fits s (words_of bytes) table → Fits s' (words_of bytes') table
          fits f =
              let g : CommitFits s (words_of bytes) table (batch_items c b) (act ∷ nth acts (c.next + 1) ∷ drop (c.next + 1 + 1) acts) × Reads s (commit_olds k) (act ∷ nth acts (c.next + 1) ∷ drop (c.next + 1 + 1) acts) (words_of bytes) table = rw (here (omega arith), more) at f.1 in (
                f.0,
                rw (after, more, words) (
                  action-kept c k b (words_of bytes) table (batch_items c b) act (nth acts (c.next + 1)) (drop (c.next + 1 + 1) acts) g.0,
                  reads_kept c (acted c c.keys c.fresh) k b table (words_of bytes) (commit_olds k) act (nth acts (c.next + 1) ∷ drop (c.next + 1 + 1) acts) refl g.1,
                ),
              )

      -- the last, with its batch joined
      pub commit-joins : (b' table' : List ℕ) (keys place : ℕ) → place ≡ base (power_in k) (chunk_in k) + 8 * lines_in k → c.next + 1 ≡ commit_count c.words
          → Joining (size_in k) place c.words c.keys b b' (words_of bytes') table table' keys → Does Step (memory s bytes table) (memory (with' (acted c keys 0) b') bytes' table') r
      commit-joins b' table' keys place is-place h j =
          rw er
          (step-acts s s' bytes bytes' table table' k.image k.table 0 (Rest (power_in k) k.image k.table []) F (busy (power_in k) k.image k.table (batch_items c b) (Committing (commit_olds k))) same_bytes same-words
          act (drop (c.next + 1) acts) (here (omega arith)) after done j.sized (rw (at-3 c k b e) tt) fits)
        where
          s' : Session
          s' = with' (acted c keys 0) b'

          after : state_at (acted c keys 0) k b' ≡ F (drop (c.next + 1) acts)
          after = behind (acted c keys 0) b' refl refl (words-kept c (acted c keys 0) b b' j.kept refl)

          none : drop (c.next + 1) acts ≡ []
          none = commit-done c k b (c.next + 1) (omega arith)

          fits : Fits s (words_of bytes) table → Fits s' (words_of bytes') table'
          fits f = (j.kept.long ∙ f.0, rw (after, none, words) (last-kept c k b (words_of bytes) table (batch_items c b) act (rw (here (omega arith), none) at f.1).0 place is-place b' table' keys (rw words at j), tt))

    -- that is a fence
    pub commit-fences : (b' table' : List ℕ) (keys place : ℕ) → place ≡ base (power_in k) (chunk_in k) + 8 * lines_in k → c.next < commit_count c.words → commit_count c.words ≤ c.next + 1
        → Joining (size_in k) place c.words c.keys b b' (words_of bytes) table table' keys → Does Step (memory s bytes table) (memory (with' (acted c keys 0) b') bytes table') R.Fence
    commit-fences b' table' keys place is-place l h j =
        commit-joins bytes R.Fence (sym (ap as_report (commit-last c k b c.next h))) refl b' table' keys place is-place (omega arith) j

    -- a store of one of the batch's words
    pub commit-stores : (bytes' : List ℕ) (w v : ℕ) → c.next < 8 * lines_for (min c.words batch_room) → w ≡ base (power_in k) (chunk_in k) + 8 * lines_in k + c.next
        → v ≡ get_or (padded (buffer_part b 0 (min c.words batch_room))) c.next 0 → Saved bytes bytes' w v
        → Does Step (memory s bytes table) (memory (with' (acted c c.keys c.fresh) b) bytes' table) (R.Store w v)
    unfolding commit_actions batch_words
    commit-stores bytes' w v h ew ev saved =
        let n : ℕ = min c.words batch_room in
        commit-acts bytes' (R.Store w v) (shows-store k (buffer_part b 0 n) c.next (lines_for n) (lines-of b 0 n _ refl) (size_in k) refl w v h ew ev)
        (changed-store (R.Store w v) bytes bytes' w v refl saved) (omega arith)

    pub commit-ends : commit_count c.words ≤ c.next → Does Step (memory s bytes table) (memory (with' (ended_empty c) b) bytes table) (R.End 0)
    unfolding state_at batch_items batch_words
    commit-ends h =
        step-ends s (with' (ended_empty c) b) bytes bytes table table k.image k.table 0 (Rest (power_in k) k.image k.table []) F (busy (power_in k) k.image k.table (batch_items c b) (Committing (commit_olds k)))
        same_bytes same-words last refl (λ f. (f.0, end_kept c k b (words_of bytes) table (batch_items c b) (rw last at f.1).0))
      where
        last : state_at c k b ≡ F []
        last = at-3 c k b e ∙ ap F (commit-done c k b c.next h)

  -- FORMAT
  -- after an action; after the last
  abbrev pub counted : Control
  counted = at_action (c.next + 1) c

  module _ (low : 4 ≤ c.phase) (high : c.phase ≤ 5) where
    abbrev is_open : Dec (c.phase ≡ 5) → Bool
    is_open (yes e) = true
    is_open (no e) = false

    abbrev o : Bool
    o = is_open (ℕ_discrete c.phase 5)

    by-phase : (c' : Control) → c'.phase ≡ c.phase → state_at c' k b ≡ Formatting o k.image k.table (drop c'.next (format_actions k))
    by-phase c' e = go (ℕ_discrete c.phase 5)
      where
        go : (d : Dec (c.phase ≡ 5)) → state_at c' k b ≡ Formatting (is_open d) k.image k.table (drop c'.next (format_actions k))
        go (yes q) = at_5 c' k b (e ∙ q)
        go (no q) = at-4 c' k b (omega arith)

    pub format-acts : (bytes' : List ℕ) (r : Report) → c.next < format_count → r ≡ nth_report (format_actions k) c.next → Changed r bytes bytes'
        → Does Step (memory s bytes table) (memory (with' counted b) bytes' table) r
    format-acts bytes' r h er changed =
        rw er
        (step-acts s (with' counted b) bytes bytes' table table k.image k.table 0 Closed (Formatting o k.image k.table) (formatting o k.image k.table) same_bytes same-words
        (nth (format_actions k) c.next) (drop (c.next + 1) (format_actions k)) (by-phase c refl ∙ ap (Formatting o k.image k.table) (format-next k c.next h)) (by-phase counted refl)
        (rw er at changed) refl (table_kept (state_at c k b) table) (λ f. (f.0, rw (by-phase counted refl) tt)))

    pub format-ends : format_count ≤ c.next → Does Step (memory s bytes table) (memory (with' closed b) bytes table) (R.End 0)
    unfolding state_at
    format-ends h =
        step-ends s (with' closed b) bytes bytes table table k.image k.table 0 Closed (Formatting o k.image k.table) (formatting o k.image k.table) same_bytes same-words
        (by-phase c refl ∙ ap (Formatting o k.image k.table) (format-done k c.next h)) refl (λ f. (f.0, tt))
