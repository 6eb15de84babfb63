-- The filter of the staged keys: a bit set keeps the others, a key whose bit is 0 has no staged item, and one more item
-- is marked beside the others.
-- Assumes nothing.
use mathlib.Core.Path.{◌≡◌, refl, sym, ◌∙◌, ap}
use mathlib.Core.Logic.{by_cases}
use mathlib.Core.Bool.{false}
use mathlib.Core.List.{List, [], ◌∷◌, ◌++◌}
use Prim.Native.Nat.{ℕ, ◌*◌, ◌%◌, ◌^◌, ◌<◌}
use native.Mathlib.Omega.{arith}
use native.Mathlib.Decide.{ℕ_discrete}
use lib.Bits.{bit_or}
use lib.Dec.{eqb}
use lib.ListN.{length, get_or}
use borrow.Author.Tests.{eq-eqb, ne_eqb}
use Rattle.spec.specs.Log.{Entry, encode_all}
use Rattle.theory_base.proofs.Lists.{not-both}
use Rattle.theory_log.specs.Fold.{fold_e}
use Rattle.buffer.proofs.Word.{shifted, set_same, set_other}
use Rattle.session.specs.State.{buffer_part}
use Rattle.buffer.specs.Areas.{filter_place}
use Rattle.session.specs.Filter.{filter_bit, is_marked, AllMarked}
use Rattle.batch.specs.declared.Latest.{Latest}
use Rattle.std.specs.Prelude.{Option, None}
use Rattle.batch.specs.Items.{pass, latest_of}
use Rattle.batch.specs.Marks.{marks_of, MarkedWith}

-- A BIT SET, as the code shifts it
pub bit-set : (w key bit : ℕ) → bit ≡ filter_bit key → bit < 64 → MarkedWith w (bit_or w (1 * 2 ^ bit % 2 ^ 64)) key
unfolding is_marked
bit-set w key bit e l = record {
  key' = rw (shifted bit l, sym e) (eq-eqb _ 1 (set_same w bit));
  others = λ k h. rw (shifted bit l) (by_cases (ℕ_discrete (filter_bit k) bit)
      (λ q. rw q (eq-eqb _ 1 (set_same w bit)))
      (λ q. ap (λ (x : ℕ). eqb x 1) (set_other w bit (filter_bit k) q) ∙ h));
}

-- THE STAGED ITEMS' KEYS
more-marked : (w next key : ℕ) → MarkedWith w next key → (items : List Entry) (e : Entry) → e.key ≡ key → AllMarked w items → AllMarked next (items ++ (e ∷ []))
more-marked w next key m [] e q a = (rw q m.key', tt)
more-marked w next key m (x ∷ items) e q a = (m.others x.key a.0, more-marked w next key m items e q a.1)

none-staged : (b items : List ℕ) (es : List Entry) → items ≡ [] → items ≡ encode_all es → es ≡ []
none-staged b items [] z e = refl
none-staged b items (x ∷ es) z e = absurd (let q = ap length (sym z ∙ e) in omega arith)

-- with nothing staged the filter counts as empty
pub marks-all : (b : List ℕ) (words n : ℕ) (items : List Entry) → (words ≡ 0 → n ≡ 0) → buffer_part b 0 n ≡ encode_all items → AllMarked (get_or b filter_place 0) items → AllMarked (marks_of b words) items
marks-all b words n items z w a = by_cases (ℕ_discrete words 0)
    (λ q. rw (none-staged b (buffer_part b 0 n) items (ap (buffer_part b 0) (z q)) w) tt)
    (λ q. rw (ne_eqb words 0 q) a)

pub marked_more : (b : List ℕ) (words next : ℕ) (items : List Entry) (e : Entry) → MarkedWith (marks_of b words) next e.key → buffer_part b 0 words ≡ encode_all items
    → AllMarked (get_or b filter_place 0) items → AllMarked next (items ++ (e ∷ []))
marked_more b words next items e m w a = more-marked (marks_of b words) next e.key m items e refl (marks-all b words words items (λ z. z) w a)

-- a key whose bit is 0
passed : (w key : ℕ) (latest : Option Latest) (items : List Entry) → is_marked w key ≡ false → AllMarked w items → fold_e (pass key) latest items ≡ latest
passed w key latest [] u a = refl
passed w key latest (e ∷ items) u a = ap (λ (l : Option Latest). fold_e (pass key) l items) (rw (ne_eqb e.key key other)) ∙ passed w key latest items u a.1
  where
    other : e.key ≡ key → ⊥
    other q = not-both (is_marked w key) (ap (is_marked w) (sym q) ∙ a.0) u

pub unmarked-none : (w key : ℕ) (items : List Entry) → is_marked w key ≡ false → AllMarked w items → None ≡ latest_of key items
unfolding latest_of
unmarked-none w key items u a = sym (passed w key None items u a)
