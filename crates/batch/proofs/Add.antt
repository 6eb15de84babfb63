-- One more item written behind the staged ones: the code's stores lay its words over the buffer.
-- Assumes nothing.
use mathlib.Core.Path.{◌≡◌, refl, sym, ◌∙◌, ap}
use mathlib.Core.List.{List, [], ◌∷◌, ◌++◌, append-nil, append_assoc}
use Prim.Native.Nat.{ℕ, suc, ◌+◌, ◌%◌, ◌^◌, ◌≤◌, ◌<◌}
use native.Mathlib.Omega.{arith}
use lib.ListN.{length, get_or, set, length-set}
use lib.Seq.{get_or-set_same, get_or-set_other}
use Rattle.spec.specs.Log.{Entry, head_of, encode, encode_all}
use Rattle.spec.specs.Plans.{entry}
use Rattle.theory_log.specs.Batch.{Kind, put, block, delete}
use Rattle.codec.specs.Firsts.{head_word}
use Rattle.words.specs.Overlay.{overlay, length-overlay, get_or-overlay-outside}
use Rattle.buffer.proofs.Laws.{bits-agree}
use Rattle.session.specs.State.{buffer_part}
use Rattle.buffer.specs.Areas.{batch_room, second_start, filter_place, buffer_words}
use Rattle.session.proofs.Part.{part-agree}
use Rattle.batch.specs.Added.{Added}
use Rattle.batch.specs.Marks.{marks_of, MarkedWith}
use Rattle.batch.proofs.Part.{part-overlay}
use Rattle.batch.proofs.Marks.{marked_more}

pub encode-append : (xs ys : List Entry) → encode_all (xs ++ ys) ≡ encode_all xs ++ encode_all ys
encode-append [] ys = refl
encode-append (x ∷ xs) ys = ap (λ (l : List ℕ). encode x ++ l) (encode-append xs ys) ∙ sym (append_assoc (encode x) (encode_all xs) (encode_all ys))

-- the first word holds the parts of a right entry
small : (op pl x : ℕ) → Kind op pl x → (op < 4) × (pl < 4)
small op pl x (put h) = (omega arith, omega arith)
small op pl x block = (omega arith, omega arith)
small op pl x delete = (omega arith, omega arith)

head-same : (op pl v x : ℕ) → Kind op pl x → v < 1048576 → x < 2 ^ 40 → head_word (op % 4) (pl % 4) (v % 1048576) (x % 2 ^ 40) ≡ head_word op pl v x
head-same op pl v x k h l =
    let s = small op pl x k in
    let a : op % 4 ≡ op = omega arith in
    let b : pl % 4 ≡ pl = omega arith in
    let c : v % 1048576 ≡ v = omega arith in
    let d : x % 2 ^ 40 ≡ x = omega arith in
    rw (a, b, c, d)

-- no room
pub add_none : (b : List ℕ) (words : ℕ) (e : Entry) → length b ≡ buffer_words → batch_room < words + (2 + length e.value) → Added b b words words e
add_none b words e n h =
    record {
      size = n;
      long = refl;
      above = λ i l h. refl;
      behind = λ i l. refl;
      bits = λ size u. refl;
      full = λ l. (refl, refl);
      count = λ l. absurd (omega arith);
      written = λ l. absurd (omega arith);
      marked = λ l. absurd (omega arith);
    }

-- the filter's word is stored first, and then the item's
module _ (b d : List ℕ) (words next op pl v x key head marks : ℕ) (vs : List ℕ) (n : length b ≡ buffer_words) (room : words + (2 + length vs) ≤ batch_room)
    (counted : next ≡ words + (2 + length vs))
    (told : head ≡ head_word (op % 4) (pl % 4) (v % 1048576) (x % 2 ^ 40)) (mark : MarkedWith (marks_of b words) marks key)
    (stored : d ≡ overlay (set (set (set b filter_place marks) words head) (words + 1) key) (words + 2) vs) where
  abbrev m : List ℕ
  m = set b filter_place marks

  laid : d ≡ overlay m words (head ∷ key ∷ vs)
  laid =
      let one : words + 1 ≡ suc words = omega arith in
      let two : words + 2 ≡ suc (suc words) = omega arith in
      stored ∙ rw (one, two)

  long-m : length m ≡ length b
  long-m = length-set b filter_place marks

  outside : (i : ℕ) → second_start ≤ i → get_or d i 0 ≡ get_or m i 0
  outside i l = ap (λ (xs : List ℕ). get_or xs i 0) laid ∙ get_or-overlay-outside (head ∷ key ∷ vs) m words i (λ p q. omega arith)

  above_kept : (i : ℕ) → second_start ≤ i → i < filter_place → get_or d i 0 ≡ get_or b i 0
  above_kept i l h = outside i l ∙ get_or-set_other b filter_place i marks 0 (λ q. omega arith)

  behind-kept : (i : ℕ) → filter_place < i → get_or d i 0 ≡ get_or b i 0
  behind-kept i l = outside i (omega arith) ∙ get_or-set_other b filter_place i marks 0 (λ q. omega arith)

  filter-is : get_or d filter_place 0 ≡ marks
  filter-is = outside filter_place (omega arith) ∙ get_or-set_same b filter_place marks 0 (omega arith)

  written_behind : buffer_part d 0 next ≡ buffer_part b 0 words ++ (head ∷ key ∷ vs)
  written_behind =
      let s : next ≡ words + suc (suc (length vs)) = omega arith in
      let e = long-m in
      rw (laid, s) (part-overlay m (head ∷ key ∷ vs) words (omega arith))
      ∙ ap (λ (xs : List ℕ). xs ++ (head ∷ key ∷ vs)) (part-agree m b 0 words (λ j l u. get_or-set_other b filter_place j marks 0 (λ q. omega arith)))

  pub add-more : Added b d words next (entry op pl v x key vs)
  add-more =
      record {
        size = n;
        long = ap length laid ∙ length-overlay m words (head ∷ key ∷ vs) ∙ long-m;
        above = above_kept;
        behind = behind-kept;
        bits = λ size. bits-agree size b d (λ i l h. above_kept i (omega arith) h);
        full = λ l. absurd (omega arith);
        count = λ l. counted;
        written = λ l r f items w.
            let e = entry op pl v x key vs in
            let h : head ≡ head_of e = told ∙ head-same op pl v x r.kind r.high f in
            written_behind
            ∙ ap (λ (xs : List ℕ). xs ++ (head ∷ key ∷ vs)) w
            ∙ ap (λ (k : ℕ). encode_all items ++ (k ∷ key ∷ vs)) h
            ∙ sym (encode-append items (e ∷ []) ∙ ap (λ (xs : List ℕ). encode_all items ++ xs) (append-nil (encode e)));
        marked = λ l items w a. rw filter-is (marked_more b words marks items (entry op pl v x key vs) mark w a);
      }
