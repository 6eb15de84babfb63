-- The tests of a block, as the code makes them one after the other.
-- Assumes nothing.
use mathlib.Core.Path.{◌≡◌, refl, sym, ◌∙◌}
use mathlib.Core.Bool.{Bool, true, false}
use mathlib.Core.List.{List, [], ◌∷◌, ◌++◌}
use Prim.Native.Nat.{ℕ, ◌+◌, ◌-◌, ◌*◌, ◌/◌, ◌%◌, ◌^◌, ◌≤◌, min}
use native.Mathlib.Nat.{add-zero}
use native.Mathlib.Decide.{dec_le}
use native.Mathlib.Omega.{arith}
use lib.Dec.{ltb}
use lib.ListN.{length, get_or, get_or-eq_default}
use borrow.Author.Tests.{ne_eqb, le-leb, leb-true}
use Rattle.spec.specs.Basics.{both, every}
use Rattle.spec.specs.Places.{unit_chunk, unit_word}
use Rattle.spec.specs.Blocks.{start_tests, length_tests, block_test, block_right}
use Rattle.spec.specs.Directory.{size_of}
use Rattle.theory_base.proofs.Lists.{every_true}
use Rattle.logs.proofs.Shifts.{shift-bytes}

pub both_true : (b : Bool) → both b true ≡ b
both_true true = refl
both_true false = refl

every_append : (xs ys : List Bool) → every (xs ++ ys) ≡ both (every xs) (every ys)
every_append [] ys = refl
every_append (true ∷ xs) ys = every_append xs ys
every_append (false ∷ xs) ys = refl

-- what a right start says of the block size
pub start-size : (p n u s : ℕ) → every (start_tests p n u s) ≡ true → 1 ≤ s
start-size p n u s h = leb-true 1 s (every_true (start_tests p n u s) h).1.1.0

-- The length and the fill.
module _ (s len last : ℕ) where
  module _ (low : 257 ≤ len) (high : len + 8 ≤ 256 * s) where
    pub length-filled : (len % 8 ≡ 0 → ⊥) → ltb last (1 * 2 ^ (8 * (len % 8)) % 2 ^ 64) ≡ every (length_tests s len last)
    length-filled h = rw (le-leb 257 len low, le-leb (len + 8) (256 * s) high, ne_eqb (len % 8) 0 h, shift-bytes (len % 8) (omega arith)) (sym (both_true (ltb last (256 ^ (len % 8)))))

-- The block: the start is looked at first.
module _ (p n u s len last : ℕ) where
  block-both : block_test p n u s len last ≡ both (every (start_tests p n u s)) (every (length_tests s len last))
  unfolding block_test
  block-both = every_append (start_tests p n u s) (length_tests s len last)

  pub block_start : every (start_tests p n u s) ≡ false → false ≡ block_test p n u s len last
  block_start h = sym (block-both ∙ rw h)

  pub block-length : every (start_tests p n u s) ≡ true → every (length_tests s len last) ≡ block_test p n u s len last
  block-length h = sym (block-both ∙ rw h)

-- a word past the list reads 0 from the cut place too
pub cut : (ws : List ℕ) (at i bound : ℕ) → length ws ≤ bound → get_or ws (min at bound + i) 0 ≡ get_or ws (at + i) 0
cut ws at i bound h = go (dec_le at bound)
  where
    go : Dec (at ≤ bound) → get_or ws (min at bound + i) 0 ≡ get_or ws (at + i) 0
    go (yes l) = let e : min at bound ≡ at = omega arith in rw e
    go (no l) = get_or-eq_default ws 0 (omega arith) ∙ sym (get_or-eq_default ws 0 (omega arith))

pub cut-first : (ws : List ℕ) (at bound : ℕ) → length ws ≤ bound → get_or ws (min at bound) 0 ≡ get_or ws at 0
cut-first ws at bound h = rw (add-zero (min at bound), add-zero at) at (cut ws at 0 bound h)

-- what the code shows: the words are read from the block's first word, which is cut where it is past the image
module _ (p : ℕ) (ws : List ℕ) (n u s : ℕ) (short : length ws ≤ 2 ^ 61 - 1) (is-size : s ≡ size_of p ws (unit_chunk p u)) where
  pub shows-start : every (start_tests p n u s) ≡ false → false ≡ block_right p n ws u
  shows-start h =
      let len = get_or ws (unit_word u) 0 in
      block_start p n u s len (get_or ws (unit_word u + (len + 7) / 8) 0) h ∙ rw is-size

  pub shows-block : (at len last : ℕ) (r : Bool) → at ≡ min (unit_word u) (2 ^ 61 - 1) → len ≡ get_or ws at 0 → last ≡ get_or ws (at + (len + 7) / 8) 0
      → every (start_tests p n u s) ≡ true → r ≡ every (length_tests s len last) → r ≡ block_right p n ws u
  shows-block at len last r is_at is-len is_last t h =
      let l : len ≡ get_or ws (unit_word u) 0 = is-len ∙ rw is_at (cut-first ws (unit_word u) (2 ^ 61 - 1) short) in
      let m : last ≡ get_or ws (unit_word u + (get_or ws (unit_word u) 0 + 7) / 8) 0 = is_last ∙ rw (is_at, l) (cut ws (unit_word u) ((get_or ws (unit_word u) 0 + 7) / 8) (2 ^ 61 - 1) short) in
      h ∙ block-length p n u s len last t ∙ rw (is-size, m, l)
