-- The actions that put words behind a chunk's committed lines, by number. With b lines: 8b stores, b flushes, a fence;
-- the directory word, its line, a fence.
-- Assumes nothing.
use mathlib.Core.Path.{◌≡◌, refl, ◌∙◌}
use mathlib.Core.List.{List, [], ◌∷◌, ◌++◌, append_assoc}
use Prim.Native.Nat.{ℕ, zero, suc, ◌+◌, ◌-◌, ◌*◌, ◌<◌, ◌≤◌}
use native.Mathlib.Omega.{arith}
use lib.ListN.{length, get_or, replicate}
use Rattle.spec.specs.Places.{base, first_line, directory_word, line_of}
use Rattle.spec.specs.Medium.{Action, Store, Flush, Fence}
use Rattle.spec.specs.Directory.{log_word}
use Rattle.spec.specs.Actions.{writes, flushes, lines_for, padded, body_of, seal_of, commit_of, append_of}
use Rattle.theory_crash.proofs.Cells.{length-writes, length-flushes}
use Rattle.theory_crash.proofs.Append.{padded-length}
use Rattle.actions.specs.Nth.{nth}
use Rattle.actions.proofs.Nth.{nth-writes, nth-flushes, nth-front, nth-back}

-- PADDING
zeros : (n i : ℕ) → get_or {A = ℕ} (replicate n 0) i 0 ≡ 0
zeros zero i = refl
zeros (suc n) zero = refl
zeros (suc n) (suc i) = zeros n i

-- a list with zeros behind it is read as the list
pub zeros-behind : (ws : List ℕ) (n i : ℕ) → get_or (ws ++ replicate n 0) i 0 ≡ get_or ws i 0
zeros-behind [] n i = zeros n i
zeros-behind (w ∷ ws) n zero = refl
zeros-behind (w ∷ ws) n (suc i) = zeros-behind ws n i

pub padded-word : (ws : List ℕ) (i : ℕ) → get_or (padded ws) i 0 ≡ get_or ws i 0
unfolding padded
padded-word ws i = zeros-behind ws (8 * lines_for (length ws) - length ws) i

-- BY NUMBER
module _ (p c old l : ℕ) (words : List ℕ) where
  abbrev lines : ℕ
  lines = lines_for (length words)

  abbrev acts : List Action
  acts = append_of p c old l words

  abbrev W : List Action
  W = writes (base p c + 8 * l) (padded words)

  abbrev F : List Action
  F = flushes (first_line p c + l) lines

  abbrev S : List Action
  S = seal_of c (log_word old (l + lines))

  size-W : length W ≡ 8 * lines
  size-W = length-writes (base p c + 8 * l) (padded words) ∙ padded-length words

  size-F : length F ≡ lines
  size-F = length-flushes (first_line p c + l) lines

  shape : acts ≡ W ++ (F ++ (Fence ∷ S))
  unfolding append_of commit_of body_of
  shape = simp append_assoc

  in-seal : (at i : ℕ) → at ≡ 9 * lines + i → nth acts at ≡ nth (Fence ∷ S) i
  in-seal at i e =
      rw shape (nth-back W (F ++ (Fence ∷ S)) at (lines + i) (8 * lines) size-W (omega arith)
      ∙ nth-back F (Fence ∷ S) (lines + i) i lines size-F refl)

  pub nth-store : (at w : ℕ) → at < 8 * lines → w ≡ base p c + 8 * l + at → nth acts at ≡ Store w (get_or (padded words) at 0)
  nth-store at w h e =
      let k = padded-length words in
      rw shape (nth-front W (F ++ (Fence ∷ S)) at (rw size-W h) ∙ nth-writes (base p c + 8 * l) (padded words) at w (omega arith) e)

  pub nth-flush : (at i line : ℕ) → at ≡ 8 * lines + i → i < lines → line ≡ first_line p c + l + i → nth acts at ≡ Flush line
  nth-flush at i line e h q =
      rw shape (nth-back W (F ++ (Fence ∷ S)) at i (8 * lines) size-W e
      ∙ nth-front F (Fence ∷ S) i (rw size-F h)
      ∙ nth-flushes (first_line p c + l) lines i line h q)

  pub nth-fence : (at : ℕ) → at ≡ 9 * lines → nth acts at ≡ Fence
  nth-fence at e = in-seal at 0 (omega arith)

  pub nth-sealed : (at i : ℕ) → at ≡ 9 * lines + 1 + i → nth acts at ≡ nth S i
  nth-sealed at i e = in-seal at (suc i) (omega arith)

  pub nth-seal : (at : ℕ) → at ≡ 9 * lines + 1 → nth acts at ≡ Store (directory_word c) (log_word old (l + lines))
  nth-seal at e = in-seal at 1 e

  pub nth-seal-flush : (at : ℕ) → at ≡ 9 * lines + 2 → nth acts at ≡ Flush (line_of (directory_word c))
  nth-seal-flush at e = in-seal at 2 e

  ending : (i : ℕ) → 3 ≤ i → nth (Fence ∷ S) i ≡ Fence
  ending zero h = refl
  ending (suc zero) h = absurd (omega arith)
  ending (suc (suc zero)) h = absurd (omega arith)
  ending (suc (suc (suc zero))) h = refl
  ending (suc (suc (suc (suc i)))) h = refl

  pub nth_last : (at : ℕ) → 9 * lines + 3 ≤ at → nth acts at ≡ Fence
  nth_last at h = in-seal at (at - 9 * lines) (omega arith) ∙ ending (at - 9 * lines) (omega arith)
