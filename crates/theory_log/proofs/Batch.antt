-- A batch that was encoded parses back; parsing looks at the committed lines alone.
-- Assumes nothing.
use Rattle.std.proofs.lemmas.Bool.Decides.{nat_tests}
use mathlib.Core.Path.{◌≡◌, refl, sym, ◌∙◌, ap}
use mathlib.Core.List.{List, [], ◌∷◌, ◌++◌, append_assoc}
use Prim.Native.Nat.{ℕ, zero, suc, ◌+◌, ◌-◌, ◌*◌, ◌<◌, ◌≤◌}
use native.Mathlib.Nat.{add-zero, add-suc, suc-add}
use native.Mathlib.Omega.{arith}
use lib.ListN.{length, get_or, take, replicate, length-append}
use lib.Seq.{take-append_seam, ext_get_or, slice, get_or-take, get_or-drop, length-slice}
use borrow.Author.Tests.{ne_eqb, le-leb}
use Rattle.spec.specs.declared.FirstWord.TheVariants as F
use Rattle.spec.specs.Log.{parts_of, first_of_word, words_for, step_of, Entry, Entries, cons, prepend, parse, encode, encode_all, moved, placed, entries_of}
use Rattle.theory_log.specs.Batch.{Kind, put, block, delete, Right, AllRight}
use Rattle.theory_log.proofs.Parse.{entry-step, filled-append, parse-append, prepend-entries}

-- a first word, taken apart again
fields : (op pl v x : ℕ) → op < 4 → pl < 4 → v < 1048576 → 1 ≤ v → first_of_word (op + 4 * pl + 16 * v + 16777216 * x) ≡ parts_of op pl v x
unfolding first_of_word
fields op pl v x ho hp hv h1 = grind (arith, nat_tests)

pub first-right : (op pl v x : ℕ) → Kind op pl x → 1 ≤ v → v < 1048576 → first_of_word (op + 4 * pl + 16 * v + 16777216 * x) ≡ F.Entry op pl v x
first-right op pl v x (put h) l u = fields 1 0 v x (omega arith) (omega arith) u l ∙ rw (ne_eqb v 0 (omega arith), le-leb x 256 h)
first-right op pl v x block l u = fields 1 1 v x (omega arith) (omega arith) u l ∙ rw (ne_eqb v 0 (omega arith))
first-right op pl v x delete l u = fields 2 0 v 0 (omega arith) (omega arith) u l ∙ rw (ne_eqb v 0 (omega arith))

-- the rest of an entry is skipped
pub parse-skip : (xs ys : List ℕ) (n at : ℕ) → length xs ≡ n → parse (xs ++ ys) n at ≡ parse ys 0 (at + n)
parse-skip [] ys zero at e = rw add-zero
parse-skip [] ys (suc n) at e = absurd (omega arith)
parse-skip (x ∷ xs) ys zero at e = absurd (omega arith)
parse-skip (x ∷ xs) ys (suc n) at e = rw (add-suc, ← suc-add) (parse-skip xs ys n (suc at) (omega arith))

-- one entry
pub parse-entry : (e : Entry) (ys : List ℕ) (at : ℕ) → Right e → parse (encode e ++ ys) 0 at ≡ cons (moved at e) (parse ys 0 (at + (2 + length e.value)))
unfolding step_of
parse-entry e ys at r =
    let n = words_for e.placement e.field in
    let m : length e.value ≡ n = r.words in
    let fit : 2 + n ≤ length (encode e) = omega arith in
    let fit' : 2 + n ≤ length (encode e ++ ys) = simp length-append (omega arith) in
    let f = filled-append e.placement e.field (encode e) ys fit ∙ r.fill in
    let t : take n (e.value ++ ys) ≡ e.value = rw (← m) (take-append_seam e.value ys) in
    let s = parse-skip e.value ys n (suc (suc at)) m in
    let p : suc (suc at) + n ≡ at + (2 + n) = omega arith in
    rw (
      first-right e.op e.placement e.version e.field r.kind r.low r.high,
      entry-step e.op e.placement e.version e.field (encode e ++ ys) fit' f,
      t,
      s,
      p,
      m,
    )

-- zeros are padding
pub parse-zeros : (n at : ℕ) → parse (replicate n 0) 0 at ≡ Entries []
unfolding step_of first_of_word
parse-zeros zero at = refl
parse-zeros (suc n) at = parse-zeros n (suc at)

-- A batch parses back to its entries, each with its place.
pub parse-batch : (es : List Entry) (n at : ℕ) → AllRight es → parse (encode_all es ++ replicate n 0) 0 at ≡ Entries (placed at es)
parse-batch [] n at r = parse-zeros n at
parse-batch (e ∷ es) n at r =
    ap (λ (l : List ℕ). parse l 0 at) (append_assoc (encode e) (encode_all es) (replicate n 0)) ∙ (parse-entry e (encode_all es ++ replicate n 0) at r.0 ∙ ap (cons (moved at e)) (parse-batch es n (at + (2 + length e.value)) r.1))

-- A batch behind committed words.
pub parse-commit : (xs : List ℕ) (es fs : List Entry) (n at : ℕ) → parse xs 0 at ≡ Entries es → AllRight fs
    → parse (xs ++ (encode_all fs ++ replicate n 0)) 0 at ≡ Entries (es ++ placed (at + length xs) fs)
parse-commit xs es fs n at e r =
    parse-append xs (encode_all fs ++ replicate n 0) 0 at es (omega arith) e ∙ ap (prepend es) (parse-batch fs n (at + length xs) r) ∙ prepend-entries es (placed (at + length xs) fs)

-- Parsing looks at the words of the committed lines alone.
pub slice-agree : (f t : ℕ) (as' bs : List ℕ) → t ≤ length as' → t ≤ length bs → ((i : ℕ) → f ≤ i → i < t → get_or as' i 0 ≡ get_or bs i 0) → slice f t as' ≡ slice f t bs
slice-agree f t as' bs ha hb h = ext_get_or 0 (slice f t as') (slice f t bs) (length-slice f t as' ha ∙ sym (length-slice f t bs hb)) at_each
  where
    at_each : (i : ℕ) → i < length (slice f t as') → get_or (slice f t as') i 0 ≡ get_or (slice f t bs) i 0
    at_each i l =
        let k : i < t - f = rw (length-slice f t as' ha) at l in
        let m : f + i < t = omega arith in
        rw (get_or-drop, get_or-drop, get_or-take t as' (f + i) 0 m, get_or-take t bs (f + i) 0 m) (h (f + i) (omega arith) m)

pub entries-agree : (as' bs : List ℕ) (base lines : ℕ) → base + 8 * lines ≤ length as' → base + 8 * lines ≤ length bs
    → ((i : ℕ) → base ≤ i → i < base + 8 * lines → get_or as' i 0 ≡ get_or bs i 0) → entries_of as' base lines ≡ entries_of bs base lines
entries-agree as' bs base lines ha hb h = rw (slice-agree base (base + 8 * lines) as' bs ha hb h)
