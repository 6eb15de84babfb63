-- A formatting's actions, by number: how many there are, which is last, and what the code shows of each.
-- Assumes nothing.
use mathlib.Core.Path.{◌≡◌, refl, sym, ◌∙◌, ap}
use mathlib.Core.List.{List, [], ◌∷◌, ◌++◌, append_assoc}
use Prim.Native.Nat.{ℕ, suc, ◌+◌, ◌-◌, ◌/◌, ◌%◌, ◌<◌, ◌≤◌}
use native.Mathlib.Omega.{arith}
use lib.ListN.{length, get_or, drop, get_or-eq_default}
use Rattle.spec.specs.Places.{max_chunks, chunks_in}
use Rattle.spec.specs.Medium.{Action, Store, Flush, Fence}
use Rattle.spec.specs.Header.{header_map, header_tail, header_words}
use Rattle.spec.specs.Actions.{writes, flushes, first_word_of, fill_of, blank_of, format_of}
use Rattle.spec.specs.Reports.{as_report}
use Rattle.spec.specs.Basics.{Given}
use Rattle.spec.specs.declared.Size.{Size}
use Rattle.places.specs.Sizes.{power_of}
use Rattle.session.specs.declared.Setup.{Setup}
use Rattle.spec.specs.declared.Report.{Report}
use Rattle.spec.specs.declared.Report.TheVariants as R
use Rattle.codec.specs.Headers.{header-words}
use Rattle.session.specs.State.{size_in, power_in, given_by, format_actions}
use Rattle.theory_crash.proofs.Cells.{length-writes, length-flushes}
use Rattle.theory_crash.proofs.Format.{blank-length, format-count}
use Rattle.actions.specs.Nth.{nth, nth_report, format_count, register_word}
use Rattle.actions.proofs.Nth.{nth-writes, nth-flushes, nth-front, nth-back, drop_nth, drop_past}
use Rattle.actions.proofs.Appends.{zeros-behind}

-- ANY FILL: word 0 zeroed, the words from word 1 on, so many lines, word 0 at last
module _ (words : List ℕ) (count lines first : ℕ) (sized : length words ≡ count) where
  abbrev all : List Action
  all = first_word_of 0 ++ (fill_of words lines ++ first_word_of first)

  abbrev W : List Action
  W = writes 1 words

  abbrev F : List Action
  F = flushes 0 lines

  size-W : length W ≡ count
  size-W = length-writes 1 words ∙ sized

  size-F : length F ≡ lines
  size-F = length-flushes 0 lines

  shape : all ≡ first_word_of 0 ++ (W ++ (F ++ (Fence ∷ first_word_of first)))
  unfolding fill_of
  shape = ap (λ (l : List Action). first_word_of 0 ++ l) (simp append_assoc)

  behind : (at i : ℕ) → at ≡ 3 + i → nth all at ≡ nth (W ++ (F ++ (Fence ∷ first_word_of first))) i
  behind at i e = ap (λ (l : List Action). nth l at) shape ∙ nth-back (first_word_of 0) (W ++ (F ++ (Fence ∷ first_word_of first))) at i 3 refl e

  fill-front : (at : ℕ) → at < 3 → nth all at ≡ nth (first_word_of 0) at
  fill-front at h = nth-front (first_word_of 0) (fill_of words lines ++ first_word_of first) at h

  fill-store : (at i w : ℕ) → at ≡ 3 + i → i < count → w ≡ 1 + i → nth all at ≡ Store w (get_or words i 0)
  fill-store at i w e h q =
      behind at i e ∙ nth-front W (F ++ (Fence ∷ first_word_of first)) i (rw size-W h) ∙ nth-writes 1 words i w (omega arith) q

  fill-flush : (at i : ℕ) → at ≡ 3 + count + i → i < lines → nth all at ≡ Flush i
  fill-flush at i e h =
      behind at (count + i) (omega arith)
      ∙ nth-back W (F ++ (Fence ∷ first_word_of first)) (count + i) i count size-W refl
      ∙ nth-front F (Fence ∷ first_word_of first) i (rw size-F h)
      ∙ nth-flushes 0 lines i i h (omega arith)

  ending : (at i : ℕ) → at ≡ 3 + count + lines + i → nth all at ≡ nth (Fence ∷ first_word_of first) i
  ending at i e =
      behind at (count + (lines + i)) (omega arith)
      ∙ nth-back W (F ++ (Fence ∷ first_word_of first)) (count + (lines + i)) (lines + i) count size-W refl
      ∙ nth-back F (Fence ∷ first_word_of first) (lines + i) i lines size-F refl

  fill-fence : (at : ℕ) → at ≡ 3 + count + lines → nth all at ≡ Fence
  fill-fence at e = ending at 0 (omega arith)

  fill-back : (at i : ℕ) → at ≡ 4 + count + lines + i → nth all at ≡ nth (first_word_of first) i
  fill-back at i e = ending at (suc i) (omega arith)

-- A FORMATTING
module _ (k : Setup) where
  abbrev chunks : ℕ
  chunks = chunks_in (power_in k) k.image

  abbrev station : Given
  station = given_by (k.fields / 2 % 2) k.station

  abbrev centre : Given
  centre = given_by (k.fields / 4 % 2) k.centre

  abbrev words : List ℕ
  words = blank_of (header_tail (power_in k) chunks station centre)

  sized : length words ≡ 511
  sized = blank-length (power_in k) chunks station centre

  is-fill : format_actions k ≡ first_word_of 0 ++ (fill_of words 64 ++ first_word_of (header_map (power_in k) station centre))
  unfolding format_actions format_of
  is-fill = refl

  by-fill : (at : ℕ) (a : Action) → nth (first_word_of 0 ++ (fill_of words 64 ++ first_word_of (header_map (power_in k) station centre))) at ≡ a
      → nth (format_actions k) at ≡ a
  by-fill at a e = ap (λ (l : List Action). nth l at) is-fill ∙ e

  -- the register's words
  word_first : register_word k 0 ≡ header_map (power_in k) station centre
  unfolding register_word header_words
  word_first = refl

  word-later : (w i : ℕ) → w ≡ 1 + i → register_word k w ≡ get_or words i 0
  unfolding register_word header_words blank_of
  word-later w i e =
      let q : w ≡ suc i = omega arith in
      rw q (sym (zeros-behind (header_tail (power_in k) chunks station centre) max_chunks i))

  -- past the header
  pub word-behind : (i : ℕ) → 8 ≤ i → 0 ≡ register_word k i
  unfolding register_word
  word-behind i h =
      let l : length (header_words (power_in k) chunks station centre) ≡ 8 = ap length (header-words (power_in k) chunks station centre) in
      sym (get_or-eq_default (header_words (power_in k) chunks station centre) 0 (rw l h))

  -- a header that the codec makes of what the setup says
  pub word-shown : (size : Size) (i r n : ℕ) (s t : Given) → size ≡ size_in k → n ≡ chunks_in (power_of size) k.image → s ≡ given_by (k.fields / 2 % 2) k.station → t ≡ given_by (k.fields / 4 % 2) k.centre
      → r ≡ get_or (header_words (power_of size) n s t) i 0 → r ≡ register_word k i
  unfolding register_word
  word-shown size i r n s t z a b d e = e ∙ rw (a, b, d, z)

  pub length-format : length (format_actions k) ≡ format_count
  unfolding format_actions
  length-format = format-count (power_in k) chunks station centre

  pub format-done : (at : ℕ) → format_count ≤ at → drop at (format_actions k) ≡ []
  format-done at h = drop_past (format_actions k) at (rw length-format h)

  pub format-next : (at : ℕ) → at < format_count → drop at (format_actions k) ≡ nth (format_actions k) at ∷ drop (at + 1) (format_actions k)
  format-next at h = drop_nth (format_actions k) at (rw length-format h)

  -- EACH ACTION
  pub format-front : (at : ℕ) → at < 3 → nth (format_actions k) at ≡ nth (first_word_of 0) at
  format-front at h = by-fill at (nth (first_word_of 0) at) (fill-front words 511 64 (header_map (power_in k) station centre) sized at h)

  pub format-store : (at w : ℕ) → 3 ≤ at → at < 514 → at ≡ w + 2 → nth (format_actions k) at ≡ Store w (register_word k w)
  format-store at w h q e =
      by-fill at (Store w (register_word k w)) (fill-store words 511 64 (header_map (power_in k) station centre) sized at (at - 3) w (omega arith) (omega arith) (omega arith)
      ∙ ap (Store w) (sym (word-later w (at - 3) (omega arith))))

  pub format-flush : (at l : ℕ) → at ≡ 514 + l → at < 578 → nth (format_actions k) at ≡ Flush l
  format-flush at l e h = by-fill at (Flush l) (fill-flush words 511 64 (header_map (power_in k) station centre) sized at l (omega arith) (omega arith))

  pub format-fence : (at : ℕ) → at ≡ 578 → nth (format_actions k) at ≡ Fence
  format-fence at e = by-fill at Fence (fill-fence words 511 64 (header_map (power_in k) station centre) sized at e)

  pub format_back : (at i : ℕ) → at ≡ 579 + i → nth (format_actions k) at ≡ nth (first_word_of (register_word k 0)) i
  format_back at i e =
      by-fill at (nth (first_word_of (register_word k 0)) i) (fill-back words 511 64 (header_map (power_in k) station centre) sized at i e
      ∙ ap (λ (v : ℕ). nth (first_word_of v) i) (sym word_first))

  pub format-last : (at : ℕ) → at + 1 ≡ format_count → nth (format_actions k) at ≡ Fence
  format-last at e = format_back at 2 (omega arith)

  -- WHAT THE CODE SHOWS at each return
  pub shows-front : (at : ℕ) (r : Report) → at < 3 → r ≡ nth_report (first_word_of 0) at → r ≡ nth_report (format_actions k) at
  shows-front at r h e = e ∙ sym (ap as_report (format-front at h))

  pub shows-word : (at w v : ℕ) → 3 ≤ at → at < 514 → w ≡ at - 2 → v ≡ register_word k w → R.Store w v ≡ nth_report (format_actions k) at
  shows-word at w v h q e s = ap (R.Store w) s ∙ sym (ap as_report (format-store at w h q (omega arith)))

  pub shows-line : (at l : ℕ) → 514 ≤ at → at < 578 → l ≡ at - 514 → R.Flush l ≡ nth_report (format_actions k) at
  shows-line at l h q e = sym (ap as_report (format-flush at l (omega arith) q))

  pub shows-fence : (at : ℕ) → at ≡ 578 → R.Fence ≡ nth_report (format_actions k) at
  shows-fence at e = sym (ap as_report (format-fence at e))

  pub shows-back : (at v : ℕ) (r : Report) → 579 ≤ at → v ≡ register_word k 0 → r ≡ nth_report (first_word_of v) (at - 579)
      → r ≡ nth_report (format_actions k) at
  shows-back at v r h e q =
      q ∙ ap (λ (x : ℕ). nth_report (first_word_of x) (at - 579)) e ∙ sym (ap as_report (format_back at (at - 579) (omega arith)))
