-- What the code of the fast path shows inside a staging is what its contracts say: the stores that come next, and the
-- action behind them.
-- Assumes nothing.
use mathlib.Core.Path.{◌≡◌, refl, sym, ◌∙◌, ap, subst}
use mathlib.Core.Logic.{by_cases}
use mathlib.Core.Bool.{false}
use mathlib.Core.List.{List}
use Prim.Native.Nat.{ℕ, zero, suc, ◌+◌, ◌-◌, ◌≤◌, ◌<◌}
use native.Mathlib.Omega.{arith}
use native.Mathlib.Decide.{dec_lt, ℕ_discrete}
use lib.ListN.{length, get_or}
use borrow.Author.Tests.{eq-eqb, ne_eqb}
use Rattle.spec.specs.Places.{unit_word, line_of}
use Rattle.spec.specs.Actions.{lines_for, block_of}
use Rattle.spec.specs.Machine.{Step}
use Rattle.spec.specs.Contract.{Changed}
use Rattle.buffer.specs.Areas.{second_start}
use Rattle.session.specs.declared.Control.{Control}
use Rattle.session.specs.declared.Setup.{Setup}
use Rattle.spec.specs.declared.Report.{Report}
use Rattle.spec.specs.declared.Report.TheVariants as R
use Rattle.words.specs.Image.{Saved}
use Rattle.session.specs.State.{held_count, held_words, unit_of, block_actions, behind_all}
use Rattle.actions.specs.Nth.{nth_report}
use Rattle.actions.proofs.Performed.{changed-store, changed-length}
use Rattle.actions.proofs.Filling as B
use Rattle.stepping.proofs.Shows.{staging-acts, staging-ends}
use Rattle.running.specs.Run.{Runs, is_store, RunsOn}
use Rattle.running.specs.Stores.{area_word, Filled}
use Rattle.running.specs.Fast.{InStaging}
use Rattle.running.specs.Staging.{take_count, BlockStores, StagingRun}
use Rattle.running.proofs.Run.{stored-first, unchanged}
use Rattle.running.proofs.Stores.{before-none, filled-length, filled_runs}
use Rattle.session.specs.Promise.{Does, memory, memory_of}
use Rattle.session.specs.Numbers.{at_action, in_phase, ended}

-- THE ACTIONS, by number
pub take_none : (k : Setup) → k.fields ≡ 0 → take_count k ≡ 0
take_none k e = rw (eq-eqb k.fields 0 e)

pub take-two : (k : Setup) → (k.fields ≡ 0 → ⊥) → take_count k ≡ 2
take-two k n = rw (ne_eqb k.fields 0 n)

module _ (k : Setup) (b : List ℕ) where
  -- action number take_count + i is action number i of those that fill the block
  fills : (r : Report) (n i : ℕ) → n ≡ take_count k + i → r ≡ nth_report (block_of (unit_of k) (held_words k b)) i → r ≡ nth_report (block_actions k b) n
  fills r n i e q = by_cases (ℕ_discrete k.fields 0)
      (λ z. let t = take_none k z in let w : n ≡ i = omega arith in B.whole_plain k b r (unit_of k) n z refl (q ∙ ap (nth_report (block_of (unit_of k) (held_words k b))) (sym w)))
      (λ z. let t = take-two k z in B.whole-fill k b r (unit_of k) n i z (omega arith) refl q)

  -- a store of word i of those held
  fills-store : (n i w : ℕ) → n ≡ take_count k + i → i < held_count k b → w ≡ unit_word (unit_of k) + i → R.Store w (get_or b (second_start + i) 0) ≡ nth_report (block_actions k b) n
  fills-store n i w e l ew = fills _ n i e (B.shows-store k (unit_of k) b (held_count k b) i refl w l ew)

  -- behind them no action is a store
  pub no_store : (n : ℕ) → take_count k + held_count k b ≤ n → is_store (nth_report (block_actions k b) n) ≡ false
  no_store n l = by_cases (dec_lt (n - take_count k) (held_count k b + lines_for (held_count k b)))
      (λ h. ap is_store (sym (fills _ n (n - take_count k) (omega arith) (B.shows-flush k (unit_of k) b (held_count k b) (n - take_count k) refl _ (omega arith) h refl))))
      (λ h. ap is_store (sym (fills _ n (n - take_count k) (omega arith) (B.shows-past k (unit_of k) b (held_count k b) (n - take_count k) refl (omega arith)))))

  -- the chunk's directory word is a store, its line is none
  takes-store : (k.fields ≡ 0 → ⊥) → (w : ℕ) × ((v : ℕ) × (nth_report (block_actions k b) 0 ≡ R.Store w v))
  takes-store z = (_, (_, sym (B.whole_take k b _ 0 _ z (omega arith) refl refl)))

  takes-flush : (k.fields ≡ 0 → ⊥) → is_store (nth_report (block_actions k b) 1) ≡ false
  takes-flush z = ap is_store (sym (B.whole_take k b _ 1 _ z (omega arith) refl refl))

  taken : (n : ℕ) → n < take_count k → k.fields ≡ 0 → ⊥
  taken n l z = let t = take_none k z in omega arith

-- ONE ACTION
module _ (c : Control) (k : Setup) (b bytes bytes' table : List ℕ) (h : InStaging c k (length bytes) (length table)) where
  abbrev Stepping : Report → Control → Type 0
  Stepping r x = Does Step (memory_of c k b bytes table) (memory_of x k b bytes' table) r

  pub acts-once : (r : Report) → c.next < length (block_actions k b) → r ≡ nth_report (block_actions k b) c.next → Changed r bytes bytes' → Stepping r (at_action (c.next + 1) c)
  acts-once r l e changed =
      subst (λ (p : ℕ). Stepping r (in_phase p (c.next + 1) c)) (sym h.0)
      (staging-acts c k b bytes table h.1.0 h.1.1 h.0 bytes' r l e changed)

-- SEVERAL
module _ (c : Control) (k : Setup) (b bytes : List ℕ) where
  abbrev acts : ℕ
  acts = length (block_actions k b)

  -- nothing is to be stored now
  pub none-stored : is_store (nth_report (block_actions k b) c.next) ≡ false → BlockStores c k b bytes bytes c.next
  none-stored e = record { made = before-none InStaging c k b bytes; behind = e }

  pub behind-all : (first held : ℕ) → first ≡ take_count k → held ≡ held_count k b → first + held ≤ c.next → BlockStores c k b bytes bytes c.next
  behind-all first held ef eh l = none-stored (no_store k b c.next (omega arith))

  -- the flush of the directory word's line
  pub at-the-flush : (first : ℕ) → first ≡ take_count k → c.next < first → first ≤ 2 → (c.next ≡ 0 → ⊥) → BlockStores c k b bytes bytes c.next
  at-the-flush first ef l two z = let e : c.next ≡ 1 = omega (arith, z) in none-stored (rw e (takes-flush k b (taken k b c.next (omega arith))))

  -- a store that takes the chunk
  pub one-taken : (first : ℕ) → first ≡ take_count k → c.next < first → c.next ≡ 0 → (bytes' : List ℕ) (r : Report) → r ≡ nth_report (block_actions k b) 0 → Changed r bytes bytes' → BlockStores c k b bytes bytes' 1
  one-taken first ef l z bytes' r e changed =
      let w = takes-store k b (taken k b c.next (omega arith)) in
      let er : r ≡ R.Store w.0 w.1.0 = e ∙ w.1.1 in
      let one : c.next + 1 ≡ 1 = omega arith in
      record {
        made = record {
          sized = changed-length r bytes bytes' changed;
          run = λ table h s' bytes'' table'' r' q.
              stored-first
              (rw er at (subst (λ (n : ℕ). Does Step (memory_of c k b bytes table) (memory_of (at_action n c) k b bytes' table) r) one
              (acts-once c k b bytes bytes' table h r (let q = B.count-taking k b (held_count k b) refl (taken k b c.next (omega arith)) in omega arith) (e ∙ ap (nth_report (block_actions k b)) (sym z)) changed))) q;
        };
        behind = takes-flush k b (taken k b c.next (omega arith));
      }

  -- the words held, from the next one on
  module _ (first held start from : ℕ) (ef : first ≡ take_count k) (eh : held ≡ held_count k b) (es : start ≡ unit_word (unit_of k)) (em : c.next ≡ first + from) where
    stepped : (table : List ℕ) → InStaging c k (length bytes) (length table) → (j : ℕ) → j < held → (bytes₁ bytes₂ : List ℕ) → length bytes₁ ≡ length bytes → Saved bytes₁ bytes₂ (start + j) (area_word b j)
        → Does Step (memory_of (at_action (first + j) c) k b bytes₁ table) (memory_of (at_action (first + suc j) c) k b bytes₂ table) (R.Store (start + j) (area_word b j))
    stepped table h j l bytes₁ bytes₂ el saved =
        let e : R.Store (start + j) (area_word b j) ≡ nth_report (block_actions k b) (first + j) = fills-store k b (first + j) j (start + j) (omega arith) (omega arith) (omega arith) in
        let n : first + j + 1 ≡ first + suc j = omega arith in
        subst (λ (x : ℕ). Does Step (memory_of (at_action (first + j) c) k b bytes₁ table) (memory_of (at_action x c) k b bytes₂ table) (R.Store (start + j) (area_word b j))) n
        (acts-once (at_action (first + j) c) k b bytes₁ bytes₂ table (h.0, (h.1.0 ∙ sym el, h.1.1)) _ (inside first held ef eh (first + j) (omega arith)) e (changed-store _ bytes₁ bytes₂ _ _ refl saved))
      where
        inside : (first held : ℕ) → first ≡ take_count k → held ≡ held_count k b → (n : ℕ) → n < first + held → n < length (block_actions k b)
        inside first held ef eh n l = by_cases (ℕ_discrete k.fields 0)
            (λ z. let t = take_none k z in let q = B.count-plain k b held eh z in omega arith)
            (λ z. let t = take-two k z in let q = B.count-taking k b held eh z in omega arith)

    pub all-stored : from ≤ held → (bytes' : List ℕ) → Filled (area_word b) start from (held - from) bytes bytes' → BlockStores c k b bytes bytes' (first + held)
    all-stored l bytes' f = record {
      made = record {
        sized = filled-length (area_word b) start (held - from) from bytes bytes' f;
        run = λ table h s' bytes'' table'' r q.
            let e : first + from ≡ c.next = omega arith in
            subst (λ (x : ℕ). Runs (memory_of (at_action x c) k b bytes table) (memory s' bytes'' table'') r) e
            (filled_runs (λ j. at_action (first + j) c) k b table (area_word b) start (length bytes) (held - from) from held bytes bytes' f (omega arith) (λ j a d. stepped table h j d) refl s' bytes'' table'' r q);
      };
      behind = no_store k b (first + held) (omega arith);
    }

  -- THE ACTION BEHIND THEM, which is told; or the end
  module _ (bytes₁ : List ℕ) (n : ℕ) (so_far : BlockStores c k b bytes bytes₁ n) where
    still : (table : List ℕ) → InStaging c k (length bytes) (length table) → InStaging (at_action n c) k (length bytes₁) (length table)
    still table h = (h.0, (h.1.0 ∙ sym so_far.made.sized, h.1.1))

    pub run-acts : (table : List ℕ) → InStaging c k (length bytes) (length table) → (r : Report) → n < acts → r ≡ nth_report (block_actions k b) n → RunsOn (memory_of c k b bytes table) (memory_of (at_action (n + 1) c) k b bytes₁ table) r
    run-acts table h r l e =
        let t : is_store r ≡ false = ap is_store e ∙ so_far.behind in
        (so_far.made.run table h _ bytes₁ table r (zero, acts-once (at_action n c) k b bytes₁ bytes₁ table (still table h) r l e (unchanged r bytes₁ t)), t)

    pub run_ends : (table : List ℕ) → InStaging c k (length bytes) (length table) → acts ≤ n → RunsOn (memory_of c k b bytes table) (memory_of (ended c) k b bytes₁ table) (R.End 0)
    run_ends table h l = (so_far.made.run table h _ bytes₁ table (R.End 0) (zero, staging-ends (at_action n c) k b bytes₁ table (still table h).1.0 (still table h).1.1 (still table h).0 l), refl)

    -- the same for any table
    pub store-acts : (r : Report) → n < acts → r ≡ nth_report (block_actions k b) n → StagingRun c k b bytes bytes₁ (at_action (n + 1) c) r
    store-acts r l e = record { sized = so_far.made.sized; runs = λ table h. run-acts table h r l e }

    pub store-ends : (c' : Control) (r : Report) → c' ≡ ended c → r ≡ R.End 0 → acts ≤ n → StagingRun c k b bytes bytes₁ c' r
    store-ends c' r ec er l = record { sized = so_far.made.sized; runs = λ table h. rw (ec, er) (run_ends table h l) }

  -- A FLUSH, or the end, where all words are stored
  module _ (first held : ℕ) (ef : first ≡ take_count k) (eh : held ≡ held_count k b) (past : first + held ≤ c.next) (table : List ℕ) (h : InStaging c k (length bytes) (length table)) where
    all : acts ≡ first + held + lines_for held
    all = by_cases (ℕ_discrete k.fields 0)
        (λ z. let t = take_none k z in let q = B.count-plain k b held eh z in omega arith)
        (λ z. let t = take-two k z in let q = B.count-taking k b held eh z in omega arith)

    pub flush-acts : (line : ℕ) → c.next < first + held + lines_for held → line ≡ line_of (unit_word (unit_of k)) + (c.next - (first + held))
        → RunsOn (memory_of c k b bytes table) (memory_of (at_action (c.next + 1) c) k b bytes table) (R.Flush line)
    flush-acts line l el =
        let a = all in
        run-acts bytes c.next (behind-all first held ef eh past) table h (R.Flush line) (omega arith)
        (fills k b (R.Flush line) c.next (c.next - first) (omega arith) (B.shows-flush k (unit_of k) b held (c.next - first) eh line (omega arith) (omega arith) (omega arith)))

    pub flush-ends : (c' : Control) (r : Report) → c' ≡ ended c → r ≡ R.End 0 → first + held + lines_for held ≤ c.next
        → RunsOn (memory_of c k b bytes table) (memory_of c' k b bytes table) r
    flush-ends c' r ec er l = let a = all in rw (ec, er) (run_ends bytes c.next (behind-all first held ef eh past) table h (omega arith))

-- a staging without actions, or with none left: its next number lies behind them all
pub past-ends : (c : Control) (k : Setup) (b bytes table : List ℕ) → InStaging c k (length bytes) (length table) → (c' : Control) (r : Report) → c' ≡ ended c → r ≡ R.End 0 → behind_all ≤ c.next
    → RunsOn (memory_of c k b bytes table) (memory_of c' k b bytes table) r
past-ends c k b bytes table h c' r ec er l =
    rw (ec, er) ((zero, staging-ends c k b bytes table h.1.0 h.1.1 h.0 (B.none_left k b c.next l)), refl)
