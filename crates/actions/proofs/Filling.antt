-- The actions of a staging of a large value, by number: how many there are, and what the code shows of each.
-- Assumes nothing.
use mathlib.Core.Path.{◌≡◌, refl, sym, ◌∙◌, ap}
use mathlib.Core.Logic.{by_cases}
use mathlib.Core.List.{List, ◌++◌}
use Prim.Native.Nat.{ℕ, zero, suc, ◌+◌, ◌-◌, ◌%◌, ◌^◌, ◌<◌, ◌≤◌}
use native.Mathlib.Omega.{arith}
use native.Mathlib.Decide.{ℕ_discrete}
use borrow.Author.Tests.{eq-eqb, ne_eqb}
use lib.ListN.{length, get_or, length-append, get_or-eq_default}
use Rattle.spec.specs.Places.{unit_word, line_of}
use Rattle.spec.specs.Medium.{Action, Store, Flush, Fence}
use Rattle.spec.specs.Directory.{data_word}
use Rattle.spec.specs.Actions.{writes, flushes, lines_for, take_of, block_of}
use Rattle.spec.specs.Reports.{as_report}
use Rattle.spec.specs.declared.Report.{Report}
use Rattle.spec.specs.declared.Size.{Size}
use Rattle.places.specs.Sizes.{power_of}
use Rattle.spec.specs.declared.Report.TheVariants as R
use Rattle.codec.specs.Units.{unit_at}
use Rattle.codec.proofs.Units.{unit-of}
use Rattle.buffer.specs.Areas.{second_start}
use Rattle.session.specs.declared.Setup.{Setup}
use Rattle.session.specs.State.{size_in, power_in, chunk_in}
use Rattle.session.proofs.Part.{length_part, part-word}
use Rattle.theory_crash.proofs.Cells.{length-writes, length-flushes}
use Rattle.actions.specs.Nth.{nth, nth_report, word_of}
use Rattle.actions.proofs.Bounds.{unit-few, held-few}
use Rattle.actions.proofs.Nth.{nth-writes, nth-flushes, nth-front, nth-back}
use Rattle.session.specs.State.{held_count, held_words, unit_of, block_actions, behind_all}

-- THE BLOCK, by number
module _ (u : ℕ) (words : List ℕ) where
  abbrev W : List Action
  W = writes (unit_word u) words

  abbrev F : List Action
  F = flushes (line_of (unit_word u)) (lines_for (length words))

  size-W : length W ≡ length words
  size-W = length-writes (unit_word u) words

  size-F : length F ≡ lines_for (length words)
  size-F = length-flushes (line_of (unit_word u)) (lines_for (length words))

  shape : block_of u words ≡ W ++ F
  unfolding block_of
  shape = refl

  pub length-block : length (block_of u words) ≡ length words + lines_for (length words)
  length-block = ap length shape ∙ length-append W F ∙ rw (size-W, size-F)

  pub nth-store : (at w : ℕ) → at < length words → w ≡ unit_word u + at → nth (block_of u words) at ≡ Store w (get_or words at 0)
  nth-store at w h e = rw shape (nth-front W F at (rw size-W h) ∙ nth-writes (unit_word u) words at w h e)

  pub nth-flush : (at i line : ℕ) → at ≡ length words + i → i < lines_for (length words) → line ≡ line_of (unit_word u) + i → nth (block_of u words) at ≡ Flush line
  nth-flush at i line e h q = rw shape (nth-back W F at i (length words) size-W e ∙ nth-flushes (line_of (unit_word u)) (lines_for (length words)) i line h q)

  pub nth_past : (at : ℕ) → length words + lines_for (length words) ≤ at → nth (block_of u words) at ≡ Fence
  nth_past at h = get_or-eq_default (block_of u words) Fence (rw length-block h)

-- WHAT THE CODE SHOWS at each return
held-length : (k : Setup) (b : List ℕ) → length (held_words k b) ≡ held_count k b
unfolding held_words
held-length k b = length_part b second_start (held_count k b)

held_word : (k : Setup) (b : List ℕ) (i : ℕ) → i < held_count k b → get_or (held_words k b) i 0 ≡ get_or b (second_start + i) 0
unfolding held_words
held_word k b i h = part-word b second_start (held_count k b) i (second_start + i) h refl

module _ (k : Setup) (u : ℕ) (b : List ℕ) (n at : ℕ) (en : n ≡ held_count k b) where
  size : length (held_words k b) ≡ n
  size = held-length k b ∙ sym en

  pub shows-store : (w : ℕ) → at < n → w ≡ unit_word u + at → R.Store w (get_or b (second_start + at) 0) ≡ nth_report (block_of u (held_words k b)) at
  shows-store w h e =
      rw (sym (held_word k b at (omega arith))) (sym (ap as_report (nth-store u (held_words k b) at w (rw size h) e)))

  pub shows-flush : (line : ℕ) → n ≤ at → at < n + lines_for n → line ≡ line_of (unit_word u) + (at - n) → R.Flush line ≡ nth_report (block_of u (held_words k b)) at
  shows-flush line l h e = sym (ap as_report (nth-flush u (held_words k b) at (at - n) line (rw size (omega arith)) (rw size (omega arith)) e))

  pub shows-past : n + lines_for n ≤ at → R.Fence ≡ nth_report (block_of u (held_words k b)) at
  shows-past h = sym (ap as_report (nth_past u (held_words k b) at (rw size h)))

-- THE CHUNK TAKEN, by number
taken : (c old s at : ℕ) → at < 2 → nth_report (word_of (8 + c) (data_word old s)) at ≡ nth_report (take_of c old s) at
taken c old s zero h = refl
taken c old s (suc zero) h = refl
taken c old s (suc (suc i)) h = absurd (omega arith)

-- THE UNIT, as the code reckons it
pub unit-is : (k : Setup) (size : Size) (u : ℕ) → size ≡ size_in k → u ≡ unit_at (power_of size) (chunk_in k) k.lines → (u ≡ unit_of k) × (u < 131072)
unfolding unit_of
unit-is k size u z e =
    let q : unit_at (power_of size) (chunk_in k) k.lines ≡ unit_of k =
    ap (λ (x : Size). unit_at (power_of x) (chunk_in k) k.lines) z ∙ unit-of (power_in k) (chunk_in k) k.lines (omega arith) in
    let f = unit-few (size_in k) (chunk_in k) k.lines (omega arith) in
    (e ∙ q, omega arith)

-- THE WHOLE
module _ (k : Setup) (b : List ℕ) where
  plain : k.fields ≡ 0 → block_actions k b ≡ block_of (unit_of k) (held_words k b)
  unfolding block_actions
  plain e = rw (eq-eqb k.fields 0 e)

  taking : (k.fields ≡ 0 → ⊥) → block_actions k b ≡ take_of (chunk_in k) k.old (k.fields % 2 ^ 56) ++ block_of (unit_of k) (held_words k b)
  unfolding block_actions
  taking n = rw (ne_eqb k.fields 0 n)

  pub count-plain : (n : ℕ) → n ≡ held_count k b → k.fields ≡ 0 → n + lines_for n ≡ length (block_actions k b)
  count-plain n e z = sym (ap length (plain z) ∙ length-block (unit_of k) (held_words k b) ∙ rw (held-length k b, e))

  pub count-taking : (n : ℕ) → n ≡ held_count k b → (k.fields ≡ 0 → ⊥) → 2 + n + lines_for n ≡ length (block_actions k b)
  count-taking n e z =
      let l : length (block_of (unit_of k) (held_words k b)) ≡ n + lines_for n = length-block (unit_of k) (held_words k b) ∙ rw (held-length k b, e) in
      let m : length (block_actions k b) ≡ suc (suc (length (block_of (unit_of k) (held_words k b)))) = ap length (taking z) in
      omega arith

  -- they are few, whatever the record holds
  few : length (block_actions k b) ≤ behind_all
  few =
      let h = held-few (size_in k) (get_or b second_start 0) in
      by_cases (ℕ_discrete k.fields 0) (λ e. let q = count-plain (held_count k b) refl e in omega arith) (λ n. let q = count-taking (held_count k b) refl n in omega arith)

  pub none_left : (at : ℕ) → behind_all ≤ at → length (block_actions k b) ≤ at
  none_left at h = let l = few in omega arith

  pub whole_plain : (r : Report) (u at : ℕ) → k.fields ≡ 0 → u ≡ unit_of k → r ≡ nth_report (block_of u (held_words k b)) at → r ≡ nth_report (block_actions k b) at
  whole_plain r u at z e q = q ∙ ap (λ (x : ℕ). nth_report (block_of x (held_words k b)) at) e ∙ ap (λ (l : List Action). nth_report l at) (sym (plain z))

  pub whole_take : (r : Report) (at v : ℕ) → (k.fields ≡ 0 → ⊥) → at < 2 → v ≡ data_word k.old (k.fields % 2 ^ 56) → r ≡ nth_report (word_of (8 + chunk_in k) v) at → r ≡ nth_report (block_actions k b) at
  whole_take r at v z h e q =
      q ∙ ap (λ (x : ℕ). nth_report (word_of (8 + chunk_in k) x) at) e ∙ taken (chunk_in k) k.old (k.fields % 2 ^ 56) at h
      ∙ sym (ap as_report (nth-front (take_of (chunk_in k) k.old (k.fields % 2 ^ 56)) (block_of (unit_of k) (held_words k b)) at h)) ∙ ap (λ (l : List Action). nth_report l at) (sym (taking z))

  pub whole-fill : (r : Report) (u at i : ℕ) → (k.fields ≡ 0 → ⊥) → at ≡ 2 + i → u ≡ unit_of k → r ≡ nth_report (block_of u (held_words k b)) i → r ≡ nth_report (block_actions k b) at
  whole-fill r u at i z h e q =
      q ∙ ap (λ (x : ℕ). nth_report (block_of x (held_words k b)) i) e
      ∙ sym (ap as_report (nth-back (take_of (chunk_in k) k.old (k.fields % 2 ^ 56)) (block_of (unit_of k) (held_words k b)) at i 2 refl h))
      ∙ ap (λ (l : List Action). nth_report l at) (sym (taking z))
