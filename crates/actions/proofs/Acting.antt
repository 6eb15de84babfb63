-- A cleaning's actions, by number: how many there are, which is last, and what the code shows of each.
-- Assumes nothing.
use mathlib.Core.Path.{◌≡◌, refl, sym, ◌∙◌, ap}
use mathlib.Core.Bool.{Bool, true, false}
use mathlib.Core.List.{List, [], ◌∷◌, ◌++◌}
use Prim.Native.Nat.{ℕ, ◌+◌, ◌-◌, ◌*◌, ◌<◌, ◌≤◌, min}
use native.Mathlib.Decide.{ℕ_discrete}
use native.Mathlib.Omega.{arith}
use lib.Dec.{eqb}
use lib.ListN.{length, drop, length-append}
use borrow.Author.Tests.{eq-eqb, ne_eqb}
use Rattle.spec.specs.Basics.{pick}
use Rattle.spec.specs.Places.{directory_word, line_of}
use Rattle.spec.specs.Medium.{Action, Flush, Fence}
use Rattle.spec.specs.Actions.{lines_for, free_of}
use Rattle.spec.specs.Reports.{as_report}
use Rattle.session.specs.declared.Setup.{Setup}
use Rattle.spec.specs.declared.Report.{Report}
use Rattle.buffer.specs.Areas.{second_start, second_room}
use Rattle.session.specs.State.{power_in, buffer_part, chunk_in, lines_in, source_in, kept_words, append_actions, copy_actions, clean_actions}
use Rattle.session.proofs.Part.{length_part}
use Rattle.theory_crash.proofs.Append.{append-count}
use Rattle.actions.specs.Nth.{nth, nth_report}
use Rattle.actions.proofs.Nth.{drop_nth, drop_past, nth-front, nth-back}
use Rattle.session.specs.declared.Source.{Source}
use Rattle.actions.specs.Record.{copy_count, clean_count}

-- THE KEPT WORDS
pub kept-length : (words : ℕ) (b : List ℕ) → length (kept_words words b) ≡ min words second_room
unfolding kept_words
kept-length words b = length_part b second_start (min words second_room)

-- THE COUNTS
pub count_none : (words : ℕ) → words ≡ 0 → copy_count words ≡ 0
count_none words e = rw (eq-eqb (min words second_room) 0 (omega arith))

pub count-some : (words : ℕ) → (words ≡ 0 → ⊥) → copy_count words ≡ 9 * lines_for (min words second_room) + 4
count-some words ne = rw (ne_eqb (min words second_room) 0 (λ e. ne (omega arith)))

pub count-few : (words : ℕ) → copy_count words ≤ 9220
count-few words = go (eqb (min words second_room) 0)
  where
    go : (t : Bool) → pick t 0 (9 * lines_for (min words second_room) + 4) ≤ 9220
    go true = omega arith
    go false = omega arith

-- what the code shows
pub shows-none : (words : ℕ) → words ≡ 0 → 0 ≡ copy_count words
shows-none words e = sym (count_none words e)

pub shows-some : (words r : ℕ) → (words ≡ 0 → ⊥) → r ≡ 9 * lines_for (min words second_room) + 4 → r ≡ copy_count words
shows-some words r ne e = e ∙ sym (count-some words ne)

module _ (k : Setup) (words : ℕ) (b : List ℕ) where
  size : length (kept_words words b) ≡ min words second_room
  size = kept-length words b

  pub length-appended : length (append_actions k (kept_words words b)) ≡ 9 * lines_for (min words second_room) + 4
  length-appended = append-count (power_in k) (chunk_in k) k.old (lines_in k) (kept_words words b) ∙ rw size

  pub length-copied : length (copy_actions k words b) ≡ copy_count words
  unfolding copy_actions
  length-copied = go (eqb (min words second_room) 0)
    where
      go : (t : Bool) → length (pick t [] (append_actions k (kept_words words b))) ≡ pick t 0 (9 * lines_for (min words second_room) + 4)
      go true = refl
      go false = length-appended

  -- where something is kept, the copying is the appending
  pub copied_some : (words ≡ 0 → ⊥) → copy_actions k words b ≡ append_actions k (kept_words words b)
  unfolding copy_actions
  copied_some ne = rw (ne_eqb (min words second_room) 0 (λ e. ne (omega arith)))

  pub copied_none : words ≡ 0 → copy_actions k words b ≡ []
  unfolding copy_actions
  copied_none e = rw (eq-eqb (min words second_room) 0 (omega arith))

-- ALL OF THEM
module _ (k : Setup) (f : Source) (b : List ℕ) where
  pub length-clean : length (clean_actions k f b) ≡ clean_count f.words
  unfolding clean_actions
  length-clean = length-append (copy_actions k f.words b) (free_of (source_in f) f.old) ∙ rw (length-copied k f.words b)

  pub clean-done : (at : ℕ) → clean_count f.words ≤ at → drop at (clean_actions k f b) ≡ []
  clean-done at h = drop_past (clean_actions k f b) at (rw length-clean h)

  pub clean-next : (at : ℕ) → at < clean_count f.words → drop at (clean_actions k f b) ≡ nth (clean_actions k f b) at ∷ drop (at + 1) (clean_actions k f b)
  clean-next at h = drop_nth (clean_actions k f b) at (rw length-clean h)

  in-free : (at i : ℕ) → at ≡ copy_count f.words + i → nth (clean_actions k f b) at ≡ nth (free_of (source_in f) f.old) i
  unfolding clean_actions
  in-free at i e = nth-back (copy_actions k f.words b) (free_of (source_in f) f.old) at i (copy_count f.words) (length-copied k f.words b) e

  pub clean-last : (at : ℕ) → at + 1 ≡ clean_count f.words → nth (clean_actions k f b) at ≡ Fence
  clean-last at e = in-free at 2 (omega arith)

  pub clean-flush : (at : ℕ) → at + 2 ≡ clean_count f.words → nth (clean_actions k f b) at ≡ Flush (line_of (directory_word (source_in f)))
  clean-flush at e = in-free at 1 (omega arith)

  -- what the code shows
  pub shows-copy : (r : Report) (at copies : ℕ) → copies ≡ copy_count f.words → at < copies → r ≡ nth_report (append_actions k (buffer_part b second_start (min f.words second_room))) at → r ≡ nth_report (clean_actions k f b) at
  unfolding clean_actions kept_words
  shows-copy r at copies e h q = go (ℕ_discrete f.words 0)
    where
      go : Dec (f.words ≡ 0) → r ≡ nth_report (copy_actions k f.words b ++ free_of (source_in f) f.old) at
      go (yes z) = absurd (let w = count_none f.words z in omega arith)
      go (no z) =
          q ∙ ap (λ (l : List Action). nth_report l at) (sym (copied_some k f.words b z))
          ∙ sym (ap as_report (nth-front (copy_actions k f.words b) (free_of (source_in f) f.old) at (rw (length-copied k f.words b, ← e) h)))

  pub shows-free : (r : Report) (at copies : ℕ) → copies ≡ copy_count f.words → copies ≤ at → r ≡ nth_report (free_of (source_in f) f.old) (at - copies) → r ≡ nth_report (clean_actions k f b) at
  shows-free r at copies e h q = q ∙ sym (ap as_report (in-free at (at - copies) (let i : at ≡ copies + (at - copies) = omega arith in i ∙ ap (λ (x : ℕ). x + (at - copies)) e)))
