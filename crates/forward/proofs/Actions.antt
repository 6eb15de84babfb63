-- The words when a cleaning's actions are done: those that it copies stand in their lines, and beside the directory
-- nothing else has changed.
-- Assumes nothing.
use mathlib.Core.Path.{◌≡◌, refl, ◌∙◌, ap}
use mathlib.Core.Logic.{◌⊎◌, inl, inr}
use mathlib.Core.List.{List, [], ◌∷◌, ◌++◌}
use Prim.Native.Nat.{ℕ, zero, suc, ◌+◌, ◌-◌, ◌*◌, ◌≤◌, ◌<◌}
use native.Mathlib.Omega.{arith}
use lib.ListN.{length, get_or, set, length-set}
use lib.Seq.{slice, length-slice, ext_get_or, get_or-set_other}
use Rattle.spec.specs.declared.Size.{Size}
use Rattle.places.specs.Sizes.{power_of}
use Rattle.spec.specs.Places.{base, directory_word, first_line}
use Rattle.spec.specs.Directory.{log_word, freed_word}
use Rattle.spec.specs.Medium.{Action, Fence}
use Rattle.spec.specs.Actions.{writes, flushes, lines_for, padded, body_of, seal_of, commit_of, append_of, free_of}
use Rattle.spec.specs.Reports.{as_report, words_after, run_words}
use Rattle.theory_log.proofs.Walk.{slice_at}
use Rattle.words.specs.Overlay.{overlay, length-overlay, get_or-overlay-outside, get_or-overlay-inside}

pub run-writes : (a : ℕ) (vs : List ℕ) (rest : List Action) (ws : List ℕ) → run_words (writes a vs ++ rest) ws ≡ run_words rest (overlay ws a vs)
run-writes a [] rest ws = refl
run-writes a (v ∷ vs) rest ws = run-writes (suc a) vs rest (set ws a v)

pub run-flushes : (l n : ℕ) (rest : List Action) (ws : List ℕ) → run_words (flushes l n ++ rest) ws ≡ run_words rest ws
run-flushes l zero rest ws = refl
run-flushes l (suc n) rest ws = run-flushes (suc l) n rest ws

pub run-append : (xs ys : List Action) (ws : List ℕ) → run_words (xs ++ ys) ws ≡ run_words ys (run_words xs ws)
run-append [] ys ws = refl
run-append (x ∷ xs) ys ws = run-append xs ys (words_after (as_report x) ws)

run-body : (sz : Size) → (d l b : ℕ) (words ws : List ℕ) → run_words (body_of (power_of sz) d l b words) ws ≡ overlay ws (base (power_of sz) d + 8 * l) words
unfolding body_of
run-body sz d l b words ws = run-writes (base (power_of sz) d + 8 * l) words (flushes (first_line (power_of sz) d + l) b ++ (Fence ∷ [])) ws ∙ run-flushes (first_line (power_of sz) d + l) b (Fence ∷ []) (overlay ws (base (power_of sz) d + 8 * l) words)

-- a cleaning: the words go behind the l lines of chunk d, whose directory word is `old`; then chunk s, whose word is
-- `old'`, is freed
module _ (sz : Size) (d old l s old' : ℕ) (words ws : List ℕ) where
  abbrev pub done : List ℕ
  done = run_words (append_of (power_of sz) d old l words ++ free_of s old') ws

  done-is : done ≡ set (set (overlay ws (base (power_of sz) d + 8 * l) (padded words)) (directory_word d) (log_word old (l + lines_for (length words)))) (directory_word s) (freed_word old')
  unfolding append_of commit_of
  done-is =
      run-append (commit_of (power_of sz) d old l (lines_for (length words)) (padded words)) (free_of s old') ws
      ∙ ap (run_words (free_of s old')) (run-append (body_of (power_of sz) d l (lines_for (length words)) (padded words)) (seal_of d (log_word old (l + lines_for (length words)))) ws
      ∙ ap (run_words (seal_of d (log_word old (l + lines_for (length words))))) (run-body sz d l (lines_for (length words)) (padded words) ws))

  pub done-length : length done ≡ length ws
  done-length = rw (done-is, length-set, length-set, length-overlay ws (base (power_of sz) d + 8 * l) (padded words))

  -- beside the directory words
  beside : (k : ℕ) → (k ≡ directory_word d → ⊥) → (k ≡ directory_word s → ⊥) → get_or done k 0 ≡ get_or (overlay ws (base (power_of sz) d + 8 * l) (padded words)) k 0
  beside k n m =
      ap (λ (x : List ℕ). get_or x k 0) done-is
      ∙ get_or-set_other (set (overlay ws (base (power_of sz) d + 8 * l) (padded words)) (directory_word d) (log_word old (l + lines_for (length words)))) (directory_word s) k (freed_word old') 0 m
      ∙ get_or-set_other (overlay ws (base (power_of sz) d + 8 * l) (padded words)) (directory_word d) k (log_word old (l + lines_for (length words))) 0 n

  -- words of chunks, outside the copies' lines, are as they were
  pub done-same : (k : ℕ) → d < 504 → s < 504 → 512 ≤ k → (k < base (power_of sz) d + 8 * l) ⊎ (base (power_of sz) d + 8 * l + length (padded words) ≤ k) → get_or done k 0 ≡ get_or ws k 0
  done-same k hd hs low o = beside k (λ q. omega arith) (λ q. omega arith) ∙ get_or-overlay-outside (padded words) ws (base (power_of sz) d + 8 * l) k (out o)
    where
      out : (k < base (power_of sz) d + 8 * l) ⊎ (base (power_of sz) d + 8 * l + length (padded words) ≤ k) → base (power_of sz) d + 8 * l ≤ k → k < base (power_of sz) d + 8 * l + length (padded words) → ⊥
      out (inl a) x y = omega arith
      out (inr a) x y = omega arith

  -- and the copies stand in theirs
  pub done-written : d < 504 → s < 504 → 512 ≤ base (power_of sz) d → base (power_of sz) d + 8 * l + length (padded words) ≤ length ws
      → slice (base (power_of sz) d + 8 * l) (base (power_of sz) d + 8 * l + length (padded words)) done ≡ padded words
  done-written hd hs low fits = ext_get_or 0 (slice (base (power_of sz) d + 8 * l) (base (power_of sz) d + 8 * l + length (padded words)) done) (padded words) long each
    where
      long : length (slice (base (power_of sz) d + 8 * l) (base (power_of sz) d + 8 * l + length (padded words)) done) ≡ length (padded words)
      long = length-slice (base (power_of sz) d + 8 * l) (base (power_of sz) d + 8 * l + length (padded words)) done (rw done-length fits) ∙ (let q : base (power_of sz) d + 8 * l + length (padded words) - (base (power_of sz) d + 8 * l) ≡ length (padded words) = omega arith in q)

      each : (i : ℕ) → i < length (slice (base (power_of sz) d + 8 * l) (base (power_of sz) d + 8 * l + length (padded words)) done) → get_or (slice (base (power_of sz) d + 8 * l) (base (power_of sz) d + 8 * l + length (padded words)) done) i 0 ≡ get_or (padded words) i 0
      each i h =
          let u : i < length (padded words) = rw long at h in
          slice_at (base (power_of sz) d + 8 * l) (base (power_of sz) d + 8 * l + length (padded words)) done i (omega arith)
          ∙ beside (base (power_of sz) d + 8 * l + i) (λ q. omega arith) (λ q. omega arith)
          ∙ get_or-overlay-inside (padded words) ws (base (power_of sz) d + 8 * l) i (base (power_of sz) d + 8 * l + i) refl u (omega arith)
