-- The entries that a walk of the log has passed, step by step, and those that it passes over.
-- Assumes nothing.
use mathlib.Core.Path.{◌≡◌, refl, sym, ◌∙◌, ap}
use mathlib.Core.Logic.{◌⊎◌, inl, inr}
use mathlib.Core.Bool.{Bool, true, false}
use mathlib.Core.List.{List, [], ◌∷◌, ◌++◌, append-nil, append_assoc}
use Prim.Native.Nat.{ℕ, ◌+◌, ◌*◌, ◌/◌, ◌%◌, ◌≤◌, ◌<◌, min}
use native.Mathlib.Decide.{dec_le}
use native.Mathlib.Omega.{arith}
use lib.Dec.{eqb, leb}
use lib.ListN.{length, get_or, drop}
use lib.Seq.{slice}
use borrow.Author.Tests.{ne_eqb}
use Rattle.spec.specs.declared.LogStep.TheVariants as S
use Rattle.spec.specs.declared.FirstWord.TheVariants as F
use Rattle.spec.specs.Basics.{pick}
use Rattle.spec.specs.Log.{Entry, Wrong, Entries, max_in_log, first_of_word, filled, step_of, image_entries}
use Rattle.spec.specs.Blocks.{pointed}
use Rattle.theory_log.specs.Contents.{Mem}
use Rattle.theory_log.proofs.Contents.{mem-cases}
use Rattle.theory_log.proofs.Parse.{cons_inv}
use Rattle.theory_log.proofs.Walk.{step-first, step-short, step-fill}
use Rattle.logs.specs.declared.Cursor.{Cursor}
use Rattle.logs.specs.declared.Entry as H
use Rattle.logs.specs.Stands.{entry_in}
use Rattle.logs.specs.Cursor.{start, cursor_at, remaining, left, with_value, Handed}
use Rattle.logs.proofs.Walk.{remaining-start, next-wrong, next-padding, next-found}
use Rattle.consistency.specs.Classes.{asked}
use Rattle.consistency.specs.Passing.{Passed, PassedOver}

pub passed_start : (p n : ℕ) (ws : List ℕ) (c : Cursor) (es : List Entry) → c ≡ start → image_entries p n ws ≡ Entries es → Passed p n ws c es []
passed_start p n ws c es q h = record { rest = es; split = refl; remains = ap (remaining p n ws) q ∙ remaining-start p n ws ∙ h }

module _ (p n : ℕ) (ws : List ℕ) (c : Cursor) (es xs : List Entry) (inv : Passed p n ws c es xs) where
  pub passed-done : remaining p n ws c ≡ Entries [] → xs ≡ es
  passed-done a =
      let b = inv.remains in
      let z : inv.rest ≡ [] = cc in
      sym (inv.split ∙ ap (xs ++◌) z ∙ append-nil xs)

  pub passed-wrong : remaining p n ws c ≡ Wrong → ⊥
  passed-wrong a =
      let b = inv.remains in
      let z : ◌≡◌ {A = ℕ} 0 1 = cc in
      omega arith

  module _ (h : H.Entry) (given : Handed p n ws c h) where
    next : (ys : List Entry) × (remaining p n ws h.behind ≡ Entries ys) × (inv.rest ≡ with_value ws h ∷ ys)
    next = cons_inv (with_value ws h) (remaining p n ws h.behind) inv.rest (sym given.whole ∙ inv.remains)

    pub passed-split : (ys : List Entry) × (es ≡ xs ++ with_value ws h ∷ ys)
    passed-split = (next.0, inv.split ∙ ap (xs ++◌) next.2)

    pub passed-next : Passed p n ws h.behind es (xs ++ with_value ws h ∷ [])
    passed-next = record { rest = next.0; split = inv.split ∙ ap (xs ++◌) next.2 ∙ sym (append_assoc xs (with_value ws h ∷ []) next.0); remains = next.1 }

-- ## Passing over

first-zero : first_of_word 0 ≡ F.Padding
unfolding first_of_word
first-zero = refl

-- a word of zero is padding
pub padding-stands : (ws : List ℕ) (at end : ℕ) → at < end → at < length ws → 0 ≡ get_or ws at 0 → step_of (slice at end ws) ≡ S.Padding
padding-stands ws at end h l z = step-first at end ws F.Padding h l (ap first_of_word (sym z) ∙ first-zero)

-- a first word with the low bits 0001 is that of a put with its value in the log, or a wrong one
first-put : (w : ℕ) → w % 16 ≡ 1 → (first_of_word w ≡ F.Wrong) ⊎ (first_of_word w ≡ F.Entry 1 0 (w / 16 % 1048576) (w / 16777216))
unfolding first_of_word
first-put w l =
    let q : w ≡ 16 * (w / 16) + 1 = omega arith in
    let o : w % 4 ≡ 1 = omega arith in
    let d : w / 4 ≡ 4 * (w / 16) = omega arith in
    let p : w / 4 % 4 ≡ 0 = rw d (omega arith) in
    rw (ne_eqb w 0 (omega arith), o, p) (go (eqb (w / 16 % 1048576) 0) (leb (w / 16777216) max_in_log))
  where
    go : (a b : Bool) → (pick a F.Wrong (pick b (F.Entry 1 0 (w / 16 % 1048576) (w / 16777216)) F.Wrong) ≡ F.Wrong)
        ⊎ (pick a F.Wrong (pick b (F.Entry 1 0 (w / 16 % 1048576) (w / 16777216)) F.Wrong) ≡ F.Entry 1 0 (w / 16 % 1048576) (w / 16777216))
    go true b = inl refl
    go false true = inr refl
    go false false = inl refl

-- so such a put stands there, or the log is wrong
module _ (ws : List ℕ) (at end w : ℕ) (h : at < end) (l : at < length ws) (is_word : w ≡ get_or ws at 0) (low : w % 16 ≡ 1) where
  put-stands : (step_of (slice at end ws) ≡ S.Wrong) ⊎ (step_of (slice at end ws) ≡ S.Entry 1 0 (w / 16 % 1048576) (w / 16777216) (get_or ws (at + 1) 0) ((w / 16777216 + 7) / 8))
  put-stands = go (first-put w low) (dec_le (at + (2 + (w / 16777216 + 7) / 8)) (min end (length ws)))
    where
      by-fill : (b : Bool) → step_of (slice at end ws) ≡ pick b (S.Entry 1 0 (w / 16 % 1048576) (w / 16777216) (get_or ws (at + 1) 0) ((w / 16777216 + 7) / 8)) S.Wrong
          → (step_of (slice at end ws) ≡ S.Wrong) ⊎ (step_of (slice at end ws) ≡ S.Entry 1 0 (w / 16 % 1048576) (w / 16777216) (get_or ws (at + 1) 0) ((w / 16777216 + 7) / 8))
      by-fill true q = inr q
      by-fill false q = inl q

      go : (first_of_word w ≡ F.Wrong) ⊎ (first_of_word w ≡ F.Entry 1 0 (w / 16 % 1048576) (w / 16777216)) → Dec (at + (2 + (w / 16777216 + 7) / 8) ≤ min end (length ws))
          → (step_of (slice at end ws) ≡ S.Wrong) ⊎ (step_of (slice at end ws) ≡ S.Entry 1 0 (w / 16 % 1048576) (w / 16777216) (get_or ws (at + 1) 0) ((w / 16777216 + 7) / 8))
      go (inl q) d = inl (step-first at end ws F.Wrong h l (ap first_of_word (sym is_word) ∙ q))
      go (inr q) (no n) = inl (step-short 1 0 (w / 16 % 1048576) (w / 16777216) at end ws h l (ap first_of_word (sym is_word) ∙ q) (omega arith))
      go (inr q) (yes y) =
          by-fill (filled 0 (w / 16777216) (drop at ws)) (step-fill 1 0 (w / 16 % 1048576) (w / 16777216) at end ws (ap first_of_word (sym is_word) ∙ q) (omega arith) (omega arith) (filled 0 (w / 16777216) (drop at ws)) refl)

left_less : (n : ℕ) (ws : List ℕ) (c at k end : ℕ) → left n ws (cursor_at c (at + k) end) ≤ left n ws (cursor_at c at end)
unfolding left
left_less n ws c at k end = omega arith

module _ (ws : List ℕ) (end : ℕ) (single : Bool) (marks : List ℕ) (low high at : ℕ) where
  pub over-start : PassedOver ws end single marks low high at at
  over-start = record {
    nearer = λ n c. omega arith;
    over = [];
    unpointed = λ e m. absurd m;
    unasked = λ e m. absurd m;
    passes = λ p n c es xs s. rw (append-nil xs) s;
  }

  -- past padding
  pub over-padding : (at' : ℕ) → PassedOver ws end single marks low high at at' → at' < end → at' < length ws → 0 ≡ get_or ws at' 0 → PassedOver ws end single marks low high at (at' + 1)
  over-padding at' so_far h l is_zero = record {
    nearer = λ n c. let f = left_less n ws c at' 1 end in let g = so_far.nearer n c in omega arith;
    over = so_far.over;
    unpointed = so_far.unpointed;
    unasked = so_far.unasked;
    passes = λ p n c es xs s.
        let q = so_far.passes p n c es xs s in
        record { rest = q.rest; split = q.split; remains = sym (next-padding p n ws c at' end (padding-stands ws at' end h l is_zero)) ∙ q.remains };
  }

  -- past a put
  over-more : (at' : ℕ) → PassedOver ws end single marks low high at at' → at' < end → at' < length ws → (w : ℕ) → w ≡ get_or ws at' 0 → w % 16 ≡ 1 → (k : ℕ) → k ≡ get_or ws (at' + 1) 0
      → asked single marks low high k ≡ false → (m : ℕ) → m ≡ (w / 16777216 + 7) / 8 → PassedOver ws end single marks low high at (at' + (2 + m))
  over-more at' so_far h l w is_word put k is_key none-asked m is-words = record {
    nearer = λ n c. let f = left_less n ws c at' (2 + m) end in let g = so_far.nearer n c in omega arith;
    over = so_far.over ++ f ∷ [];
    unpointed = λ e i. either-of (λ (y : Entry). pointed y ≡ false) e (so_far.unpointed e) refl (mem-cases e so_far.over (f ∷ []) i);
    unasked = λ e i. either-of (λ (y : Entry). asked single marks low high y.key ≡ false) e (so_far.unasked e) none-asked (mem-cases e so_far.over (f ∷ []) i);
    passes = λ p n c es xs s. on p n c es xs (so_far.passes p n c es xs s) (put-stands ws at' end w h l is_word put);
  }
    where
      v : ℕ
      v = w / 16 % 1048576

      x : ℕ
      x = w / 16777216

      f : Entry
      f = entry_in ws 1 0 v x k m at'

      either-of : (P : Entry → Type 0) (e : Entry) → (Mem e so_far.over → P e) → P f → Mem e so_far.over ⊎ Mem e (f ∷ []) → P e
      either-of P e a b (inl i) = a i
      either-of P e a b (inr (inl y)) = rw y b
      either-of P e a b (inr (inr i)) = absurd i

      on : (p n c : ℕ) (es xs : List Entry) → Passed p n ws (cursor_at c at' end) es (xs ++ so_far.over)
          → (step_of (slice at' end ws) ≡ S.Wrong) ⊎ (step_of (slice at' end ws) ≡ S.Entry 1 0 (w / 16 % 1048576) (w / 16777216) (get_or ws (at' + 1) 0) ((w / 16777216 + 7) / 8))
          → Passed p n ws (cursor_at c (at' + (2 + m)) end) es (xs ++ (so_far.over ++ f ∷ []))
      on p n c es xs s (inl q) = absurd (passed-wrong p n ws (cursor_at c at' end) es (xs ++ so_far.over) s (next-wrong p n ws c at' end q))
      on p n c es xs s (inr q) =
          rw (append_assoc xs so_far.over (f ∷ [])) at
          (passed-next p n ws (cursor_at c at' end) es (xs ++ so_far.over) s _ (next-found p n ws c at' end 1 0 v x k m (q ∙ rw (is_key, is-words))))

  -- its first two words and the value's, counted together
  pub over-put : (at' : ℕ) → PassedOver ws end single marks low high at at' → at' < end → at' < length ws → (w : ℕ) → w ≡ get_or ws at' 0 → w % 16 ≡ 1 → (k : ℕ) → k ≡ get_or ws (at' + 1) 0
      → asked single marks low high k ≡ false → PassedOver ws end single marks low high at (at' + (w / 16777216 + 23) / 8)
  over-put at' so_far h l w is_word put k is_key none-asked =
      let sum : at' + (w / 16777216 + 23) / 8 ≡ at' + (2 + (w / 16777216 + 7) / 8) = omega arith in
      rw sum (over-more at' so_far h l w is_word put k is_key none-asked ((w / 16777216 + 7) / 8) refl)
