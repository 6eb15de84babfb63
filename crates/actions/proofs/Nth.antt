-- Lists of actions by number: what is left from an action on, what it does, and where the parts of a list lie.
-- Assumes nothing.
use mathlib.Core.Path.{◌≡◌, ◌∙◌, ap}
use mathlib.Core.List.{List, [], ◌∷◌, ◌++◌}
use Prim.Native.Nat.{ℕ, zero, suc, ◌+◌, ◌<◌, ◌≤◌}
use native.Mathlib.Nat.{le_of_suc-le-suc, not-suc-le-zero}
use native.Mathlib.Numerals.{add-one}
use native.Mathlib.Omega.{arith}
use lib.ListN.{length, get_or, drop, get_or-append, drop_of_length-le}
use lib.Seq.{drop-cons, get_or-append-add}
use Rattle.spec.specs.Medium.{Action, Store, Flush, Fence}
use Rattle.spec.specs.Actions.{writes, flushes}
use Rattle.spec.specs.Reports.{as_report, words_after, run_words}
use Rattle.spec.specs.Machine.{next_report}
use Rattle.spec.specs.declared.Report.{Report}
use Rattle.spec.specs.declared.Report.TheVariants as R
use Rattle.actions.specs.Nth.{nth, nth_report}

-- FROM ACTION `at` ON
module _ (acts : List Action) (at : ℕ) where
  pub drop_nth : at < length acts → drop at acts ≡ nth acts at ∷ drop (at + 1) acts
  drop_nth h = rw (add-one, drop-cons acts at Fence)

  pub drop_past : length acts ≤ at → drop at acts ≡ []
  drop_past h = drop_of_length-le acts h

  -- the actions left, after the one that is next was done
  pub run-nth : at < length acts → (ws : List ℕ) → run_words (drop (at + 1) acts) (words_after (nth_report acts at) ws) ≡ run_words (drop at acts) ws
  run-nth h ws = rw (drop_nth h)

  pub next-nth : at < length acts → (n : ℕ) → next_report n (drop at acts) ≡ nth_report acts at
  next-nth h n = rw (drop_nth h)

-- a report of an action is one of three
pub report-by : (P : Report → Type 0) → ((w v : ℕ) → P (R.Store w v)) → ((l : ℕ) → P (R.Flush l)) → P R.Fence → (a : Action) → P (as_report a)
report-by P s l f (Store w v) = s w v
report-by P s l f (Flush i) = l i
report-by P s l f Fence = f

-- WHERE THE PARTS LIE
pub nth-writes : (a : ℕ) (vs : List ℕ) (i w : ℕ) → i < length vs → w ≡ a + i → nth (writes a vs) i ≡ Store w (get_or vs i 0)
nth-writes a [] i w h e = absurd (not-suc-le-zero h)
nth-writes a (v ∷ vs) zero w h e = ap (λ (x : ℕ). Store x v) (omega arith)
nth-writes a (v ∷ vs) (suc i) w h e = nth-writes (suc a) vs i w (le_of_suc-le-suc h) (omega arith)

pub nth-flushes : (l n i w : ℕ) → i < n → w ≡ l + i → nth (flushes l n) i ≡ Flush w
nth-flushes l zero i w h e = absurd (not-suc-le-zero h)
nth-flushes l (suc n) zero w h e = ap Flush (omega arith)
nth-flushes l (suc n) (suc i) w h e = nth-flushes (suc l) n i w (le_of_suc-le-suc h) (omega arith)

-- an action of the first of two lists, and of the second
pub nth-front : (xs ys : List Action) (i : ℕ) → i < length xs → nth (xs ++ ys) i ≡ nth xs i
nth-front xs ys i h = get_or-append xs ys Fence i h

pub nth-back : (xs ys : List Action) (i j n : ℕ) → length xs ≡ n → i ≡ n + j → nth (xs ++ ys) i ≡ nth ys j
nth-back xs ys i j n l e = ap (nth (xs ++ ys)) (let k : i ≡ length xs + j = omega arith in k) ∙ get_or-append-add xs ys j Fence
