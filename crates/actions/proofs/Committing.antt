-- A commit's actions, by number: how many there are, which is which, and which is last.
-- Assumes nothing.
use mathlib.Core.Path.{◌≡◌, ◌∙◌}
use mathlib.Core.List.{List, [], ◌∷◌}
use Prim.Native.Nat.{ℕ, ◌+◌, ◌*◌, ◌<◌, ◌≤◌, min}
use native.Mathlib.Decide.{dec_lt, ℕ_discrete}
use native.Mathlib.Omega.{arith}
use lib.ListN.{length, drop}
use Rattle.spec.specs.Places.{first_line, directory_word, line_of}
use Rattle.spec.specs.Medium.{Store, Flush, Fence}
use Rattle.spec.specs.Directory.{log_word}
use Rattle.spec.specs.Actions.{lines_for}
use Rattle.spec.specs.Reports.{run_words}
use Rattle.session.specs.declared.Control.{Control}
use Rattle.session.specs.declared.Setup.{Setup}
use Rattle.buffer.specs.Areas.{batch_room}
use Rattle.session.specs.State.{power_in, batch_words, chunk_in, lines_in, commit_actions}
use Rattle.session.proofs.Part.{staged-length}
use Rattle.theory_crash.proofs.Append.{append-count}
use Rattle.actions.specs.Nth.{nth, commit_count}
use Rattle.actions.proofs.Nth.{drop_nth, drop_past}
use Rattle.actions.proofs.Appends.{nth-flush, nth-fence, nth-seal, nth-seal-flush, nth_last}

-- THE COUNT
module _ (c : Control) (k : Setup) (b : List ℕ) where
  abbrev pub batch_lines : ℕ
  batch_lines = lines_for (min c.words batch_room)

  size : length (batch_words c b) ≡ min c.words batch_room
  size = staged-length c b

  pub length-commit : length (commit_actions c k b) ≡ commit_count c.words
  unfolding commit_actions
  length-commit =
      append-count (power_in k) (chunk_in k) k.old (lines_in k) (batch_words c b) ∙ rw size

  pub commit-done : (at : ℕ) → commit_count c.words ≤ at → drop at (commit_actions c k b) ≡ []
  commit-done at h = drop_past (commit_actions c k b) at (rw length-commit h)

  pub commit-next : (at : ℕ) → at < commit_count c.words → drop at (commit_actions c k b) ≡ nth (commit_actions c k b) at ∷ drop (at + 1) (commit_actions c k b)
  commit-next at h = drop_nth (commit_actions c k b) at (rw length-commit h)

  -- EACH ACTION
  pub commit-flush : (at i line : ℕ) → at ≡ 8 * batch_lines + i → i < batch_lines → line ≡ first_line (power_in k) (chunk_in k) + lines_in k + i
      → nth (commit_actions c k b) at ≡ Flush line
  unfolding commit_actions
  commit-flush at i line e h q =
      nth-flush (power_in k) (chunk_in k) k.old (lines_in k) (batch_words c b) at i line (rw size e) (rw size h) (omega arith)

  pub commit-fence : (at : ℕ) → at ≡ 9 * batch_lines → nth (commit_actions c k b) at ≡ Fence
  unfolding commit_actions
  commit-fence at e = nth-fence (power_in k) (chunk_in k) k.old (lines_in k) (batch_words c b) at (rw size e)

  -- the directory word is the last but two, its line's flush the last but one, and a fence the last
  pub commit-seal : (at : ℕ) → at + 3 ≡ commit_count c.words
      → nth (commit_actions c k b) at ≡ Store (directory_word (chunk_in k)) (log_word k.old (lines_in k + batch_lines))
  unfolding commit_actions
  commit-seal at e =
      rw size at (nth-seal (power_in k) (chunk_in k) k.old (lines_in k) (batch_words c b) at (rw size (omega arith)))

  pub commit-seal-flush : (at : ℕ) → at + 2 ≡ commit_count c.words → nth (commit_actions c k b) at ≡ Flush (line_of (directory_word (chunk_in k)))
  unfolding commit_actions
  commit-seal-flush at e =
      nth-seal-flush (power_in k) (chunk_in k) k.old (lines_in k) (batch_words c b) at (rw size (omega arith))

  pub commit-last : (at : ℕ) → commit_count c.words ≤ at + 1 → nth (commit_actions c k b) at ≡ Fence
  unfolding commit_actions
  commit-last at h = nth_last (power_in k) (chunk_in k) k.old (lines_in k) (batch_words c b) at (rw size (omega arith))

  -- behind the store of the directory word no word changes
  pub commit-sealed : (at : ℕ) → commit_count c.words ≤ at + 2 → (ws : List ℕ) → run_words (drop at (commit_actions c k b)) ws ≡ ws
  commit-sealed at h ws = go (dec_lt at (commit_count c.words)) (ℕ_discrete (at + 2) (commit_count c.words))
    where
      done : (i : ℕ) → commit_count c.words ≤ i → run_words (drop i (commit_actions c k b)) ws ≡ ws
      done i q = rw (commit-done i q)

      last : (i : ℕ) → i + 1 ≡ commit_count c.words → run_words (drop i (commit_actions c k b)) ws ≡ ws
      last i e = rw (commit-next i (omega arith), commit-last i (omega arith)) (done (i + 1) (omega arith))

      go : Dec (at < commit_count c.words) → Dec (at + 2 ≡ commit_count c.words) → run_words (drop at (commit_actions c k b)) ws ≡ ws
      go (no n) d = done at (omega arith)
      go (yes q) (yes e) = rw (commit-next at q, commit-seal-flush at e) (last (at + 1) (omega arith))
      go (yes q) (no n) = last at (omega arith)
