-- Block sizes: the code's tables from needed units to block size, of small chunks and of large ones, read at any
-- number. That an entry is the size of the two divisions, and of the small table that it is the smallest that fits, is
-- shown by a computed test of each; for every chunk power `theory_base` shows the latter of the two divisions.
-- Assumes nothing.
use Rattle.std.proofs.Common.{◌≡◌, ℕ, ◌+◌, ◌*◌, ◌<◌, ◌≤◌, Bool, true, T, refl, ap, ◌∙◌, eqb, leb, List, get_or, map, arith}
use Rattle.std.proofs.Math.Decide.{dec_lt}
use Rattle.std.specs.List.{range_with_len}
use Rattle.std.proofs.lemmas.List.FromFn.{get_or-map-range_with_len, length-map-range_with_len}
use Rattle.std.proofs.Math.ListN.{get_or-eq_default}
use Rattle.std.proofs.lemmas.Bool.Decides.{nat_tests}
use Rattle.spec.specs.Basics.{pick, both, either, negate, all, up_from}
use Rattle.spec.specs.Places.{chunk_units}
use Rattle.spec.specs.Directory.{size_for, is_size}
use Rattle.spec.specs.Blocks.{units_for, block_size}
use Rattle.codec.specs.declared.TheConstants.{SMALL_SIZES, LARGE_SIZES}
use Rattle.codec.proofs.Table.{passed, each_from, at, below}

-- the rule of an entry: from 2 units on the size of the two divisions; below, none
abbrev pub divided : ℕ → ℕ → ℕ
divided p u = pick (leb 2 u) (size_for p u) 0

-- what a table is to hold: for no unit, and for each number of units of a chunk
abbrev pub table : ℕ → List ℕ
table p = map (divided p) (range_with_len 0 (chunk_units p + 1))

-- the table, read at any number; past it there is no size
pub get_or-table : (p u : ℕ) → get_or (table p) u 0 ≡ pick (both (leb 2 u) (leb u (chunk_units p))) (size_for p u) 0
get_or-table p u = grind (arith, nat_tests, get_or-map-range_with_len (divided p) 0 (chunk_units p + 1) u u 0, get_or-eq_default (table p) 0 {n = u}, length-map-range_with_len (divided p) 0 (chunk_units p + 1))

-- SMALL CHUNKS: the block size for so many units, 0 to 16, as the code has it
abbrev pub small_sizes : List ℕ
small_sizes = SMALL_SIZES

-- x is the smallest size that holds k units: it is one, and every size that holds them is at least x
not_above : ℕ → ℕ → ℕ → Bool
not_above k x s = pick (both (is_size 12 s) (leb k s)) (leb x s) true

pub least_of : ℕ → ℕ → Bool
least_of k x = all (not_above k x) (up_from 0 17)

abbrev is_smallest : ℕ → ℕ → Bool
is_smallest k x = both (is_size 12 x) (both (leb k x) (least_of k x))

-- the rule of an entry: from 2 units on the smallest size, which is the definition's; below, none
right : ℕ → ℕ → Bool
right k x = pick (leb 2 k) (both (eqb x (size_for 12 k)) (is_smallest k x)) (eqb x 0)

small-tested : T (each_from right 0 small_sizes)
unfolding right least_of not_above is_size size_for chunk_units
small-tested = tt

-- the size for so many units is one, holds them, and is the smallest
pub small-smallest : all (λ u. is_smallest u (size_for 12 u)) (up_from 2 15) ≡ true
unfolding least_of not_above is_size size_for chunk_units
small-smallest = refl

-- x is the smallest size that holds u units, in chunks of 2^p bytes
pub record Smallest (p u x : ℕ) : Type 0 where
  pub is_one : is_size p x ≡ true
  pub holds : u ≤ x
  pub least : (s : ℕ) → is_size p s ≡ true → u ≤ s → x ≤ s

pub is_size-low : (s : ℕ) → is_size 12 s ≡ true → (2 ≤ s) × (s ≤ 16)
unfolding is_size chunk_units
is_size-low s e = (grind (arith, nat_tests), grind (arith, nat_tests))

least-all : (k x s : ℕ) → least_of k x ≡ true → s < 17 → not_above k x s ≡ true
unfolding least_of
least-all k x s e h = passed (not_above k x s) (below (not_above k x) 17 (rw e tt) s h)

smallest-of : (u x : ℕ) → is_smallest u x ≡ true → Smallest 12 u x
unfolding not_above
smallest-of u x e = record {
  is_one = grind (arith, nat_tests);
  holds = grind (arith, nat_tests);
  least = λ s is fits. let b = is_size-low s is in let l = least-all u x s in grind (arith, nat_tests);
}

-- every entry, from its test
entry : (u : ℕ) → u < 17 → right u (get_or small_sizes u 0) ≡ true
entry u h = passed _ (at right small_sizes small-tested u h)

module _ (u : ℕ) (low : 2 ≤ u) (high : u ≤ 16) where
  pub size-entry : get_or small_sizes u 0 ≡ size_for 12 u
  unfolding right
  size-entry = let e = entry u (omega arith) in grind (arith, nat_tests)

  pub size-smallest : Smallest 12 u (size_for 12 u)
  unfolding right
  size-smallest = let e = entry u (omega arith) in rw size-entry at (smallest-of u (get_or small_sizes u 0) (grind (arith, nat_tests)))

-- the table, read at any number; past it there is no size
pub small-inside : (u : ℕ) → get_or small_sizes u 0 ≡ pick (both (leb 2 u) (leb u 16)) (size_for 12 u) 0
unfolding right
small-inside u = grind (arith, nat_tests, entry u, get_or-eq_default small_sizes 0 {n = u})

-- the sizes, one by one
abbrev pub size_test : ℕ → Bool
size_test s = either (both (leb 2 s) (leb s 5)) (either (eqb s 8) (eqb s 16))

past : (s : ℕ) → 17 ≤ s → is_size 12 s ≡ size_test s
unfolding is_size chunk_units
past s h = grind (arith, nat_tests)

listed : all (λ s. pick (size_test s) (is_size 12 s) (negate (is_size 12 s))) (up_from 0 17) ≡ true
unfolding is_size size_for chunk_units
listed = refl

pub is_size-test : (s : ℕ) → is_size 12 s ≡ size_test s
is_size-test s = go (dec_lt s 17)
  where
    go : Dec (s < 17) → is_size 12 s ≡ size_test s
    go (yes h) =
        let t = passed _ (below (λ x. pick (size_test x) (is_size 12 x) (negate (is_size 12 x))) 17 (rw listed tt) s h) in
        grind (arith, nat_tests)
    go (no n) = past s (omega arith)

pub ruleset small_tests = (is_size-test)

-- large values in small chunks: the units that they need, and that the block holds them
module _ (n : ℕ) (low : 257 ≤ n) (high : n ≤ 4088) where
  pub units-low : (2 ≤ units_for n) × (units_for n ≤ 16)
  unfolding units_for
  units-low = omega arith

  pub block-smallest : Smallest 12 (units_for n) (block_size 12 n)
  unfolding block_size
  block-smallest = size-smallest (units_for n) units-low.0 units-low.1

  pub block-holds : n + 8 ≤ 256 * block_size 12 n
  unfolding units_for
  block-holds = let h = block-smallest.holds in omega arith

-- LARGE CHUNKS: the block size for so many units, 0 to 256, as the code has it
abbrev pub large_sizes : List ℕ
large_sizes = LARGE_SIZES

large-tested : large_sizes ≡ table 16
unfolding size_for chunk_units
large-tested = refl

pub large-inside : (u : ℕ) → get_or large_sizes u 0 ≡ pick (both (leb 2 u) (leb u 256)) (size_for 16 u) 0
unfolding chunk_units
large-inside u = ap (λ (xs : List ℕ). get_or xs u 0) large-tested ∙ get_or-table 16 u
