-- What the code shows of the actions that put words of the buffer behind the committed lines of the record's chunk: of
-- each word of them, and at each return.
-- Assumes nothing.
use mathlib.Core.Path.{◌≡◌, sym, ◌∙◌, ap}
use mathlib.Core.List.{List}
use Prim.Native.Nat.{ℕ, ◌+◌, ◌-◌, ◌*◌, ◌<◌, ◌≤◌}
use native.Mathlib.Omega.{arith}
use lib.ListN.{length, get_or, get_or-eq_default}
use Rattle.spec.specs.Places.{base, first_line}
use Rattle.spec.specs.declared.Size.{Size}
use Rattle.places.specs.Sizes.{power_of}
use Rattle.spec.specs.Directory.{log_word}
use Rattle.spec.specs.Actions.{lines_for, padded, seal_of}
use Rattle.spec.specs.Reports.{as_report}
use Rattle.session.specs.declared.Setup.{Setup}
use Rattle.spec.specs.declared.Report.{Report}
use Rattle.spec.specs.declared.Report.TheVariants as R
use Rattle.session.specs.State.{size_in, power_in, buffer_part, chunk_in, lines_in, append_actions}
use Rattle.session.proofs.Part.{length_part, part-word}
use Rattle.actions.specs.Nth.{nth_report, word_of}
use Rattle.actions.proofs.Appends.{padded-word, nth-store, nth-flush, nth-fence, nth-sealed}

-- THE WORDS, n of them from word `from` of the buffer on: word i, padded, among them and behind them
pub word-inside : (b : List ℕ) (from n i j : ℕ) → i < n → j ≡ from + i → get_or b j 0 ≡ get_or (padded (buffer_part b from n)) i 0
word-inside b from n i j h e = sym (padded-word (buffer_part b from n) i ∙ part-word b from n i j h e)

pub word-behind : (b : List ℕ) (from n i : ℕ) → n ≤ i → 0 ≡ get_or (padded (buffer_part b from n)) i 0
word-behind b from n i h = sym (padded-word (buffer_part b from n) i ∙ get_or-eq_default (buffer_part b from n) 0 (rw length_part h))

-- EACH ACTION, with the number of lines that the words take
pub lines-of : (b : List ℕ) (from n lines : ℕ) → lines ≡ lines_for n → lines ≡ lines_for (length (buffer_part b from n))
lines-of b from n lines e = e ∙ ap lines_for (sym (length_part b from n))

module _ (k : Setup) (words : List ℕ) (at lines : ℕ) (es : lines ≡ lines_for (length words)) where
  pub shows-store : (size : Size) → size ≡ size_in k → (w v : ℕ) → at < 8 * lines → w ≡ base (power_of size) (chunk_in k) + 8 * lines_in k + at → v ≡ get_or (padded words) at 0 → R.Store w v ≡ nth_report (append_actions k words) at
  shows-store size z w v h e q =
      let s : base (power_of size) (chunk_in k) ≡ base (power_in k) (chunk_in k) = ap (λ (x : Size). base (power_of x) (chunk_in k)) z in
      rw q (sym (ap as_report (nth-store (power_in k) (chunk_in k) k.old (lines_in k) words at w (omega arith) (omega arith))))

  pub shows-flush : (size : Size) → size ≡ size_in k → (line : ℕ) → 8 * lines ≤ at → at < 9 * lines → line ≡ first_line (power_of size) (chunk_in k) + lines_in k + (at - 8 * lines) → R.Flush line ≡ nth_report (append_actions k words) at
  shows-flush size z line h q e =
      let s : first_line (power_of size) (chunk_in k) ≡ first_line (power_in k) (chunk_in k) = ap (λ (x : Size). first_line (power_of x) (chunk_in k)) z in
      sym (ap as_report (nth-flush (power_in k) (chunk_in k) k.old (lines_in k) words at (at - 8 * lines) line (omega arith) (omega arith) (omega arith)))

  pub shows-fence : at ≡ 9 * lines → R.Fence ≡ nth_report (append_actions k words) at
  shows-fence e = sym (ap as_report (nth-fence (power_in k) (chunk_in k) k.old (lines_in k) words at (omega arith)))

  pub shows-seal : (r : Report) (v n : ℕ) → 9 * lines + 1 ≤ at → n ≡ lines_in k + lines → v ≡ log_word k.old n → r ≡ nth_report (word_of (8 + chunk_in k) v) (at - (9 * lines + 1)) → r ≡ nth_report (append_actions k words) at
  shows-seal r v n h q s e =
      let y : n ≡ lines_in k + lines_for (length words) = omega arith in
      e ∙ ap (λ (x : ℕ). nth_report (seal_of (chunk_in k) x) (at - (9 * lines + 1))) (s ∙ ap (log_word k.old) y)
      ∙ sym (ap as_report (nth-sealed (power_in k) (chunk_in k) k.old (lines_in k) words at (at - (9 * lines + 1)) (omega arith)))
