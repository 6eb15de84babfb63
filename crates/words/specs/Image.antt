-- The list of an image's words: its length, each word of it, and that a store of a word sets an element of it.
-- Assumes nothing.
use Rattle.std.specs.Prelude.{◌≡◌, refl, List, ℕ, zero, suc, ◌+◌, ◌*◌, ◌/◌, ◌^◌, ◌<◌, ◌≤◌, length, get_or, set}
use Rattle.std.proofs.Common.{sym, ap, add-zero, zero-add, add-suc, suc-add, le_of_suc-le-suc, not-suc-le-zero, arith, length-set, ext_get_or, get_or-set_same, get_or-set_other}
use Rattle.std.proofs.Math.ListN.{get_or-eq_default}
use Rattle.std.proofs.Math.Seq.{set_out}
use Rattle.spec.specs.Words.{AreBytes, word_at, words_from, words_of}
use Rattle.words.specs.Store.{set_word, set_word-length, set_word-same, set_word-other, set_word-byte}

pub length-words_from : (n i : ℕ) (xs : List ℕ) → length (words_from n i xs) ≡ n
length-words_from zero i xs = refl
length-words_from (suc n) i xs = ap suc (length-words_from n (suc i) xs)

pub get_or-words_from : (n i : ℕ) (xs : List ℕ) (k : ℕ) → k < n → get_or (words_from n i xs) k 0 ≡ word_at xs (i + k)
get_or-words_from zero i xs k h = absurd (not-suc-le-zero h)
get_or-words_from (suc n) i xs zero h = rw add-zero
get_or-words_from (suc n) i xs (suc k) h = rw (add-suc, ← suc-add) (get_or-words_from n (suc i) xs k (le_of_suc-le-suc h))

pub length-words_of : (xs : List ℕ) → length (words_of xs) ≡ length xs / 8
unfolding words_of
length-words_of xs = length-words_from (length xs / 8) 0 xs

pub get_or-words_of : (xs : List ℕ) (w : ℕ) → w < length xs / 8 → get_or (words_of xs) w 0 ≡ word_at xs w
unfolding words_of
get_or-words_of xs w h = rw zero-add at (get_or-words_from (length xs / 8) 0 xs w h)

pub get_or-words_of-past : (xs : List ℕ) (w : ℕ) → length xs / 8 ≤ w → get_or (words_of xs) w 0 ≡ 0
get_or-words_of-past xs w h = get_or-eq_default (words_of xs) 0 (rw length-words_of h)

pub ruleset words_read = (get_or-words_of, get_or-words_of-past)

-- a number made of bytes fits a word, and so does each word of an image
pub word_at-fits : (xs : List ℕ) → AreBytes xs → (w : ℕ) → word_at xs w < 2 ^ 64
unfolding word_at
word_at-fits xs small w =
    omega (arith, small (8 * w), small (8 * w + 1), small (8 * w + 2), small (8 * w + 3), small (8 * w + 4), small (8 * w + 5), small (8 * w + 6), small (8 * w + 7))

pub words_of-fits : (xs : List ℕ) → AreBytes xs → (w : ℕ) → get_or (words_of xs) w 0 < 2 ^ 64
words_of-fits xs small w = grind (arith, get_or-words_of xs w, get_or-words_of-past xs w, word_at-fits xs small w)

-- a store sets an element, and past the end nothing
pub words_of-set : (xs : List ℕ) (w v : ℕ) → w < length xs / 8 → v < 2 ^ 64 → words_of (set_word xs w v) ≡ set (words_of xs) w v
words_of-set xs w v h small =
    ext_get_or 0 (words_of (set_word xs w v)) (set (words_of xs) w v) (grind (arith, len)) (λ i q. grind (arith, get_or-words_of (set_word xs w v) i, get_or-words_of xs i, set_word-same xs w v, set_word-other xs w v i, get_or-set_same (words_of xs) w v 0, get_or-set_other (words_of xs) w i v 0, len))
  where
    len : (length (set_word xs w v) ≡ length xs) × (length (words_of (set_word xs w v)) ≡ length xs / 8) × (length (words_of xs) ≡ length xs / 8) × (length (set (words_of xs) w v) ≡ length xs / 8)
    len = grind (arith, set_word-length xs w v, length-words_of (set_word xs w v), length-words_of xs, length-set {A = ℕ})

pub words_of-set-past : (xs : List ℕ) (w v : ℕ) → length xs / 8 ≤ w → words_of xs ≡ set (words_of xs) w v
words_of-set-past xs w v h = let l = length-words_of xs in sym (set_out (words_of xs) w v (omega arith))

-- what a call that stores a word does to an image: past the end nothing
pub record Saved (before after : List ℕ) (w v : ℕ) : Type 0 where
  pub words : words_of after ≡ set (words_of before) w v
  pub size : length after ≡ length before
  pub bytes : (i : ℕ) → (8 * w ≤ i → i < 8 * w + 8 → ⊥) → get_or after i 0 ≡ get_or before i 0
  pub past : length before / 8 ≤ w → after ≡ before

pub saved-inside : (before after : List ℕ) (w v : ℕ) → w < length before / 8 → v < 2 ^ 64 → after ≡ set_word before w v → Saved before after w v
saved-inside before after w v h small e = rw e (record {
  words = words_of-set before w v h small;
  size = set_word-length before w v;
  bytes = set_word-byte before w v;
  past = λ p. absurd (omega arith);
})

pub saved-past : (before : List ℕ) (w v : ℕ) → length before / 8 ≤ w → Saved before before w v
saved-past before w v h = record { words = words_of-set-past before w v h; size = refl; bytes = λ i out. refl; past = λ p. refl }
