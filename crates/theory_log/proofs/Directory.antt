-- The laws of directory words: what the made ones say, and that no role claims more lines than a chunk has.
-- Assumes nothing.
use Rattle.std.proofs.lemmas.Bool.Decides.{nat_tests}
use mathlib.Core.Path.{◌≡◌, refl}
use mathlib.Core.Bool.{true}
use mathlib.Core.List.{List}
use Prim.Native.Nat.{ℕ, ◌+◌, ◌*◌, ◌/◌, ◌%◌, ◌≤◌}
use native.Mathlib.Omega.{arith}
use lib.ListN.{get_or}
use Rattle.spec.specs.Places.{chunk_lines, directory_word}
use Rattle.spec.specs.Directory.{is_size, role_by, role_of, lines_in, size_in, lines_of, size_of, log_word, data_word, freed_word}
use Rattle.spec.specs.declared.Role.TheVariants as R

-- the lines and the block size of a chunk look at its directory word alone
pub lines-is : (p : ℕ) (ws : List ℕ) (c : ℕ) → lines_of p ws c ≡ lines_in (role_of p (get_or ws (directory_word c) 0))
unfolding lines_of
lines-is p ws c = refl

pub size_is : (p : ℕ) (ws : List ℕ) (c : ℕ) → size_of p ws c ≡ size_in (role_of p (get_or ws (directory_word c) 0))
unfolding size_of
size_is p ws c = refl

-- what a role claims, from the parts of its word
by_lines : (p low high : ℕ) → lines_in (role_by p low high) ≤ chunk_lines p
by_lines p low high = grind (arith, nat_tests)

pub word-lines : (p w : ℕ) → lines_in (role_of p w) ≤ chunk_lines p
unfolding role_of
word-lines p w = by_lines p (w % 256) (w / 256)

pub lines-most : (p : ℕ) (ws : List ℕ) (c : ℕ) → lines_of p ws c ≤ chunk_lines p
lines-most p ws c = rw (lines-is p ws c) (word-lines p (get_or ws (directory_word c) 0))

-- what the made words say
pub role-log : (p old l : ℕ) → 1 ≤ l → l ≤ chunk_lines p → role_of p (log_word old l) ≡ R.Log l
unfolding role_of
role-log p old l a b = grind (arith, nat_tests)

pub role-data : (p old s : ℕ) → is_size p s ≡ true → role_of p (data_word old s) ≡ R.Data s
unfolding role_of
role-data p old s h =
    let low : (2 + 256 * s) % 256 ≡ 2 = omega arith in
    let high : (2 + 256 * s) / 256 ≡ s = omega arith in
    rw (low, high, h)

pub role-freed : (p old : ℕ) → role_of p (freed_word old) ≡ R.Free
unfolding role_of
role-freed p old = refl
