-- What the code of a commit's begin shows at each return is what the contract says.
-- Assumes nothing.
use mathlib.Core.Path.{◌≡◌, refl, sym, ◌∙◌, ap, subst}
use mathlib.Core.Logic.{inl, inr}
use mathlib.Core.Bool.{Bool}
use mathlib.Core.Option.{Option, none, some}
use mathlib.Core.List.{List, [], ◌∷◌, ◌++◌}
use Prim.Native.Nat.{ℕ, suc, ◌%◌, ◌≤◌, ◌<◌, min}
use native.Mathlib.Omega.{arith}
use lib.ListN.{length, get_or, drop}
use Rattle.spec.specs.Basics.{pick}
use Rattle.spec.specs.Words.{words_of}
use Rattle.spec.specs.Places.{directory_word, chunks_in}
use Rattle.spec.specs.declared.Size.{Size}
use Rattle.places.specs.Sizes.{power_of}
use Rattle.spec.specs.Medium.{Action}
use Rattle.spec.specs.Directory.{lines_of}
use Rattle.spec.specs.Log.{Entry, encode_all}
use Rattle.spec.specs.Log as L
use Rattle.spec.specs.Actions.{lines_for, append_of}
use Rattle.spec.specs.Reports.{run_words}
use Rattle.spec.specs.Plans.{Committing, Olds, old_of, Begin, Refuse, planned, append_to, free_needed, log_place, plan_commit}
use Rattle.spec.specs.Machine.{Commit, Rest, Busy, gate, refused_by, next, items_of, state_power}
use Rattle.spec.specs.Contract.{Exact}
use Rattle.session.specs.declared.Control.{Control}
use Rattle.session.specs.declared.Setup.{Setup}
use Rattle.session.specs.declared.Session.{Session}
use Rattle.spec.specs.declared.Refusal.{Refusal}
use Rattle.spec.specs.declared.Refusal.TheVariants as N
use Rattle.spec.specs.declared.Report.{Report}
use Rattle.spec.specs.declared.Report.TheVariants as R
use Rattle.buffer.specs.Areas.{batch_room}
use Rattle.session.specs.State.{batch_words, batch_items, commit_actions, commit_olds, size_in, power_in, state_of}
use Rattle.session.specs.Fits.{ItemsFit, Opens, Hint, sole_mark, batch_place, RestFits, CommitFits, Shown, Reads, Fits}
use Rattle.session.proofs.Phases.{rest-items}
use Rattle.session.proofs.Part.{length_part, chunk_in_lem, lines-in, words-counted}
use Rattle.batch.specs.Items.{OnlyDeletes}
use Rattle.placing.specs.declared.lines.Place.{Place}
use Rattle.placing.specs.declared.lines.Placed.{Placed}
use Rattle.placing.specs.Found.{place_in, place_of, Searched, Searching}
use Rattle.placing.proofs.PlaceFound.{placed-nowhere}
use Rattle.placing.proofs.Hint.{same-space}
use Rattle.actions.specs.Nth.{nth, commit_count}
use Rattle.actions.proofs.Committing.{length-commit, commit-next}
use Rattle.session.specs.Asks.{gate_of, Asking}
use Rattle.session.proofs.Gates as Gates
use Rattle.std.specs.Prelude.{Some, None, Result, Ok, Err}
use Rattle.committing.specs.Planned.{PlaceFor, committing, writing_to}
use Rattle.forward.proofs.Commits.{Forward, forward}
use Rattle.actions.proofs.States.{at-3}
use Rattle.session.specs.Promise.{Does, memory}
use Rattle.session.specs.Fits.{Proper}

-- a commit's begin leaves the staged items
same-items : (c : Control) (b : List ℕ) → batch_items (committing c) b ≡ batch_items c b
unfolding batch_items batch_words
same-items c b = refl

-- THE BEGIN on words at rest, with the place d found for the items f ∷ fs
module _ (c : Control) (k : Setup) (b ws table : List ℕ) (f : Entry) (fs : List Entry) (r : RestFits (record { control = c; setup = k; buffer = b }) ws table (f ∷ fs))
    (d : ℕ) (found : log_place (power_in k) (chunks_in (power_in k) k.image) ws (lines_for (length (encode_all (f ∷ fs)))) 0 (free_needed (f ∷ fs)) ≡ some d)
    (first' least' : ℕ) (hint : Hint (power_in k) (chunks_in (power_in k) k.image) ws first' least') (low : first' % sole_mark ≤ d) (sole : sole_mark ≤ first' → d ≡ first' % sole_mark) where
  abbrev items : List Entry
  items = f ∷ fs

  abbrev old : ℕ
  old = get_or ws (directory_word d) 0

  abbrev lines : ℕ
  lines = lines_of (power_in k) ws d

  abbrev c' : Control
  c' = committing c

  abbrev k' : Setup
  k' = writing_to k d old lines first' least'

  staged : length (encode_all items) ≤ batch_room
  staged = let e = words-counted c b (power_in k) (chunks_in (power_in k) k.image) ws r.entries items r.batch in let h = r.batch.room in omega arith

  ahead : Forward (size_in k) k.image k.table ws r.entries items d old
  ahead =
      forward (size_in k) k.image k.table ws r.entries f fs r.accepted r.long r.batch.right r.batch.counts r.batch.fit staged
      (let q = r.batch.keys in let t = r.table-room in omega arith) d old (free_needed items) found

  written : batch_words c' b ≡ encode_all items
  unfolding batch_words
  written = r.batch.written

  pub begun-acts : commit_actions c' k' b ≡ append_of (power_in k) d old lines (encode_all items)
  unfolding commit_actions
  begun-acts =
      rw (chunk_in_lem k' ahead.chunk, lines-in k' ahead.lines, written)

  some_words : 0 < commit_count c.words
  some_words = omega arith

  pub begun_first : drop 0 (commit_actions c' k' b) ≡ nth (commit_actions c' k' b) 0 ∷ drop 1 (commit_actions c' k' b)
  begun_first = commit-next c' k' b 0 some_words

  todo : nth (commit_actions c' k' b) 0 ∷ drop 1 (commit_actions c' k' b) ≡ append_of (power_in k) d old lines (encode_all items)
  todo = sym begun_first ∙ begun-acts

  -- the directory words of all chunks but d stay
  abbrev then : List ℕ
  then = run_words (append_of (power_in k) d old lines (encode_all items)) ws

  still : Hint (power_in k) (chunks_in (power_in k) k.image) then first' least'
  still = record {
    below = λ e l u m. same-space (power_in k) ws then least' 0 e (ahead.kept e l m (λ q. omega arith)) ∙ hint.below e l u m;
    above = λ s e l m. same-space (power_in k) ws then least' 0 e (ahead.kept e (omega arith) m (λ q. let z = sole s in omega arith)) ∙ hint.above s e l m;
    taken = λ s e l u m. rw (ahead.kept e l m (λ q. let z = sole s in omega arith)) (hint.taken s e l u m);
  }

  pub begun-fits : CommitFits (record { control = c'; setup = k'; buffer = b }) ws table items (nth (commit_actions c' k' b) 0 ∷ drop 1 (commit_actions c' k' b))
  begun-fits = record {
    front = ahead.front;
    back = ahead.back;
    chunk = ahead.chunk;
    lines = ahead.lines;
    accepted = subst (λ (l : List Action). Opens (power_in k) k.image (run_words l ws) k.table (ahead.front ++ (L.placed (batch_place k') items ++ ahead.back))) (sym todo) ahead.accepted;
    long = r.long;
    lent = r.lent;
    batch = record {
      room = r.batch.room;
      written = written;
      count = r.batch.count;
      few = r.batch.few;
      right = r.batch.right;
      counts = rw ahead.split at r.batch.counts;
      fit = subst (λ (l : List Action). ItemsFit (power_in k) (chunks_in (power_in k) k.image) (run_words l ws) (ahead.front ++ ahead.back) items) (sym todo) (rw ahead.split at ahead.fit);
      marked = r.batch.marked;
      keys = rw ahead.split at r.batch.keys;
    };
    agree = rw ahead.split at ahead.agree;
    apart = rw ahead.split at ahead.apart;
    built = record { indexed = rw ahead.split at r.built.indexed; blocks = rw ahead.split at r.built.blocks; sums = rw ahead.split at r.built.sums };
    table-room = r.table-room;
    hint = subst (λ (l : List Action). Hint (power_in k) (chunks_in (power_in k) k.image) (run_words l ws) first' least') (sym todo) still;
  }

  -- the directory word of chunk d is put back
  pub begun-olds : commit_olds k' ≡ old_of ws d ∷ []
  begun-olds = rw (chunk_in_lem k' ahead.chunk)

  pub begun-reads : Reads (record { control = c'; setup = k'; buffer = b }) (commit_olds k') (nth (commit_actions c' k' b) 0 ∷ drop 1 (commit_actions c' k' b)) ws table
  begun-reads = record {
    entries = r.entries;
    low = rw (chunk_in_lem k' ahead.chunk) (let a = ahead.chunk in omega arith, tt);
    long = r.long;
    shown =
        subst (λ (o : Olds). Shown (power_in k) k.image k.table o r.entries (nth (commit_actions c' k' b) 0 ∷ drop 1 (commit_actions c' k' b)) ws) (sym begun-olds)
        (subst (λ (l : List Action). Shown (power_in k) k.image k.table (old_of ws d ∷ []) r.entries l ws) (sym todo) ahead.shown);
    built = record { indexed = r.built.indexed; blocks = r.built.blocks; sums = r.built.sums };
  }

-- THE PLAN, by the place that was found
plan-none : (p n : ℕ) (ws : List ℕ) (items : List Entry) → length items ≡ 0 → plan_commit p n ws items ≡ Refuse N.NothingStaged
unfolding plan_commit
plan-none p n ws [] h = refl
plan-none p n ws (f ∷ fs) h = absurd (omega arith)

plan-full : (p n : ℕ) (ws : List ℕ) (f : Entry) (fs : List Entry) → log_place p n ws (lines_for (length (encode_all (f ∷ fs)))) 0 (free_needed (f ∷ fs)) ≡ none
    → plan_commit p n ws (f ∷ fs) ≡ Refuse N.NoSpace
unfolding plan_commit
plan-full p n ws f fs h = rw h

plan-at : (p n : ℕ) (ws : List ℕ) (f : Entry) (fs : List Entry) (d : ℕ) → log_place p n ws (lines_for (length (encode_all (f ∷ fs)))) 0 (free_needed (f ∷ fs)) ≡ some d
    → plan_commit p n ws (f ∷ fs) ≡ Begin (f ∷ fs) (Committing (old_of ws d ∷ [])) (append_to p ws (encode_all (f ∷ fs)) d)
unfolding plan_commit
plan-at p n ws f fs d h = rw h

found_some : (p : ℕ) (ws : List ℕ) (q : Option ℕ) (place : Place) → Some place ≡ place_of p ws q → (d : ℕ) × (q ≡ some d) × (place ≡ place_in p ws d)
found_some p ws none place e = absurd (let z : ◌≡◌ {A = ℕ} 0 1 = cc in omega arith)
found_some p ws (some d) place e = (d, refl, cc)

-- the place that the code looked for
pub place-shown : (size : Size) (b : List ℕ) (words : ℕ) (bytes : List ℕ) (count lines : ℕ) (deletes : Bool) (needed first least : ℕ) (place : Placed)
    → count ≡ chunks_in (power_of size) (length bytes) → lines ≡ lines_for (min words batch_room) → OnlyDeletes b words deletes → needed ≡ pick deletes 2 3
    → Searching (power_of size) (words_of bytes) count lines needed first least place → PlaceFor (power_of size) b words bytes first least place
place-shown size b words bytes count lines deletes needed first least place ec el ed en ep items staged hint =
    let l : length (encode_all items) ≡ min words batch_room = ap length (sym staged.written) ∙ length_part b 0 (min words batch_room) in
    rw l (rw (ec, el, en, ed items staged) at (ep (rw ec hint)))

-- by the size that the record says
pub place-sized : (z : Size) (k : Setup) (b : List ℕ) (words : ℕ) (bytes : List ℕ) (first least : ℕ) (place : Placed) → z ≡ size_in k → PlaceFor (power_of z) b words bytes first least place
    → PlaceFor (power_in k) b words bytes first least place
place-sized z k b words bytes first least place e h = rw e at h

-- THE CALL
module _ (c : Control) (k : Setup) (b bytes table : List ℕ) where
  abbrev s : Session
  s = record { control = c; setup = k; buffer = b }

  -- by the gate
  module _ (g : Result (Unit {0}) Refusal) (asks : Asking c k (length bytes) (length table) g) where
    pub gate-refuses : (n : Refusal) → g ≡ Err n → Does Commit (memory s bytes table) (memory s bytes table) (R.Refused n)
    gate-refuses n e = Gates.turned_down s bytes table n (asks.asked b ∙ ap gate_of e) Commit tt

    module _ (e : g ≡ Ok tt) where
      opened : gate (state_of s) (length bytes) (length table) ≡ none
      opened = asks.asked b ∙ ap gate_of e

      passed : (r r' : Report) → refused_by (gate (state_of s) (length bytes) (length table)) ≡ some r' → r ≡ r'
      passed r r' h = absurd (let q : none ≡ some r' = rw opened at h in let z : ◌≡◌ {A = ℕ} 0 1 = cc in omega arith)

      rests : Fits s (words_of bytes) table → Gates.AtRest s (length bytes) (length table) (words_of bytes) table
      rests q = Gates.at_rest s (length bytes) (length table) (words_of bytes) table opened q

      -- 14
      pub nothing-staged : c.items ≡ 0 → Does Commit (memory s bytes table) (memory s bytes table) (R.Refused N.NothingStaged)
      nothing-staged h =
          Gates.refused s bytes table N.NothingStaged Commit refl (λ q. q) (λ q. let a = rests q in rw (opened, a.state) (by a.items a.fits)) (passed (R.Refused N.NothingStaged))
          (inr (inr (inr (inl refl)))) (refl, refl) (inl (N.NothingStaged, refl))
        where
          by : (items : List Entry) → RestFits s (words_of bytes) table items → R.Refused N.NothingStaged ≡ planned (plan_commit (power_in k) (chunks_in (power_in k) (length bytes)) (words_of bytes) items)
          by items r = sym (ap planned (plan-none (power_in k) (chunks_in (power_in k) (length bytes)) (words_of bytes) items (let n = r.batch.count in omega arith)))

      module _ (some-staged : c.items ≡ 0 → ⊥) (placed : Placed) (searched : PlaceFor (power_in k) b c.words bytes k.first k.least placed) where
        abbrev at_place : List Entry → Option ℕ
        at_place items = log_place (power_in k) (chunks_in (power_in k) (length bytes)) (words_of bytes) (lines_for (length (encode_all items))) 0 (free_needed items)

        place_is : (items : List Entry) → RestFits s (words_of bytes) table items → k.image ≡ length bytes
            → Searched (power_in k) (words_of bytes) (chunks_in (power_in k) (length bytes)) (lines_for (length (encode_all items))) (free_needed items) placed
        unfolding batch_words
        place_is items r same = searched items (record { written = r.batch.written; right = r.batch.right; marked = r.batch.marked }) (rw same at r.hint)

        -- 13
        pub no-space : placed.place ≡ None → Does Commit (memory s bytes table) (memory s bytes table) (R.Refused N.NoSpace)
        no-space h =
            Gates.refused s bytes table N.NoSpace Commit refl (λ q. q) (λ q. let a = rests q in rw (opened, a.state) (by a.items a.fits a.same_bytes)) (passed (R.Refused N.NoSpace))
            (inr (inr (inr (inr (inl refl))))) (refl, refl) (inl (N.NoSpace, refl))
          where
            by : (items : List Entry) → RestFits s (words_of bytes) table items → k.image ≡ length bytes → R.Refused N.NoSpace ≡ planned (plan_commit (power_in k) (chunks_in (power_in k) (length bytes)) (words_of bytes) items)
            by [] r same = absurd (some-staged r.batch.count)
            by (f ∷ fs) r same =
                sym (ap planned (plan-full (power_in k) (chunks_in (power_in k) (length bytes)) (words_of bytes) f fs (placed-nowhere (power_in k) (words_of bytes) (at_place (f ∷ fs)) (sym h ∙ (place_is (f ∷ fs) r same).place))))

        -- begun
        abbrev began : Place → Session
        began x = record { control = committing c; setup = writing_to k x.chunk x.old x.committed placed.first placed.least; buffer = b }

        module _ (f : Entry) (fs : List Entry) (q : Fits s (words_of bytes) table) (σ : state_of s ≡ Rest (power_in k) k.image k.table (f ∷ fs)) (r : RestFits s (words_of bytes) table (f ∷ fs)) (same : k.image ≡ length bytes)
            (d : ℕ) (found : at_place (f ∷ fs) ≡ some d) (low : placed.first % sole_mark ≤ d) (sole : sole_mark ≤ placed.first → d ≡ placed.first % sole_mark) where
          abbrev s' : Session
          s' = began (place_in (power_in k) (words_of bytes) d)

          found' : log_place (power_in k) (chunks_in (power_in k) k.image) (words_of bytes) (lines_for (length (encode_all (f ∷ fs)))) 0 (free_needed (f ∷ fs)) ≡ some d
          found' = rw same found

          hint : Hint (power_in k) (chunks_in (power_in k) k.image) (words_of bytes) placed.first placed.least
          hint = rw same (place_is (f ∷ fs) r same).hint

          abbrev acts : List Action
          acts = append_of (power_in k) d (get_or (words_of bytes) (directory_word d) 0) (lines_of (power_in k) (words_of bytes) d) (encode_all (f ∷ fs))

          acts-are : commit_actions s'.control s'.setup b ≡ acts
          acts-are = begun-acts c k b (words_of bytes) table f fs r d found' placed.first placed.least hint low sole

          items-are : batch_items s'.control b ≡ f ∷ fs
          unfolding batch_items batch_words
          items-are = rest-items c k b (power_in k) k.image k.table (f ∷ fs) σ

          state-is : state_of s' ≡ Busy (power_in k) k.image k.table (f ∷ fs) (Committing (old_of (words_of bytes) d ∷ [])) acts
          state-is = rw (at-3 s'.control s'.setup b refl, items-are, acts-are, begun-olds c k b (words_of bytes) table f fs r d found' placed.first placed.least hint low sole)

          plan-is : plan_commit (power_in k) (chunks_in (power_in k) (length bytes)) (words_of bytes) (f ∷ fs) ≡ Begin (f ∷ fs) (Committing (old_of (words_of bytes) d ∷ [])) acts
          plan-is = plan-at (power_in k) (chunks_in (power_in k) (length bytes)) (words_of bytes) f fs d found

          exact-at : Exact Proper state_of Fits Commit s s' bytes bytes table table (R.Begun (commit_count c.words))
          unfolding next
          exact-at = record {
            answered = rw (opened, σ, plan-is) (ap R.Begun (sym (length-commit s'.control s'.setup b) ∙ ap length acts-are));
            became = rw (opened, σ, plan-is) state-is;
            fits = (q.0, rw (at-3 s'.control s'.setup b refl, items-are, begun_first c k b (words_of bytes) table f fs r d found' placed.first placed.least hint low sole) (begun-fits c k b (words_of bytes) table f fs r d found' placed.first placed.least hint low sole, begun-reads c k b (words_of bytes) table f fs r d found' placed.first placed.least hint low sole));
          }

        pub begins : (place : Place) → placed.place ≡ Some place → (a : ℕ) → a ≡ commit_count c.words → Does Commit (memory s bytes table) (memory (began place) bytes table) (R.Begun a)
        begins place h a e = rw e (record {
          exact = λ q. let t = rests q in by t.items q t.state t.fits t.same_bytes;
          first = passed (R.Begun (commit_count c.words));
          image = refl;
          sized = refl;
          outcome = (rw (at-3 (committing c) (began place).setup b refl) (ap suc (length-commit (committing c) (began place).setup b)), refl);
          anyway = inr (commit_actions (committing c) (began place).setup b, ((commit_olds (began place).setup, commits), ap R.Begun (sym (length-commit (committing c) (began place).setup b))));
        })
          where
            commits : state_of (began place) ≡ Busy (state_power (state_of s)) (length bytes) (length table) (items_of (state_of s)) (Committing (commit_olds (began place).setup)) (commit_actions (committing c) (began place).setup b)
            commits =
                let l = Gates.gate-passed s (length bytes) (length table) opened in
                at-3 (committing c) (began place).setup b refl
                ∙ ap (λ (x : ℕ). Busy (power_in k) x k.table (batch_items (committing c) b) (Committing (commit_olds (began place).setup)) (commit_actions (committing c) (began place).setup b)) l.same_bytes
                ∙ ap (λ (x : ℕ). Busy (power_in k) (length bytes) x (batch_items (committing c) b) (Committing (commit_olds (began place).setup)) (commit_actions (committing c) (began place).setup b)) l.same-words
                ∙ ap (λ (x : List Entry). Busy (power_in k) (length bytes) (length table) x (Committing (commit_olds (began place).setup)) (commit_actions (committing c) (began place).setup b)) (same-items c b ∙ sym (ap items_of l.state))
                ∙ ap (λ (x : ℕ). Busy x (length bytes) (length table) (items_of (state_of s)) (Committing (commit_olds (began place).setup)) (commit_actions (committing c) (began place).setup b)) (sym (ap state_power l.state))

            by : (items : List Entry) → Fits s (words_of bytes) table → state_of s ≡ Rest (power_in k) k.image k.table items → RestFits s (words_of bytes) table items → k.image ≡ length bytes
                → Exact Proper state_of Fits Commit s (began place) bytes bytes table table (R.Begun (commit_count c.words))
            by [] q σ r same = absurd (some-staged r.batch.count)
            by (f ∷ fs) q σ r same =
                let p = place_is (f ∷ fs) r same in
                let t = found_some (power_in k) (words_of bytes) (at_place (f ∷ fs)) place (sym h ∙ p.place) in
                let e : place.chunk ≡ t.0 = ap (λ (x : Place). x.chunk) t.2 in
                let l : placed.first % sole_mark ≤ place.chunk = p.low place h in
                subst (λ (x : Place). Exact Proper state_of Fits Commit s (began x) bytes bytes table table (R.Begun (commit_count c.words))) (sym t.2) (exact-at f fs q σ r same t.0 t.1 (omega arith) (λ y. sym e ∙ p.sole place h y))
