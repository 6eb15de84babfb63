-- What the directory says of a chunk, the bounds of lines and block sizes, and that a log
-- chunk has at least one line.
-- Assumes nothing.
use mathlib.Core.Path.{◌≡◌, refl, sym}
use mathlib.Core.Bool.{Bool, true, false}
use mathlib.Core.List.{List}
use Prim.Native.Nat.{ℕ, ◌-◌, ◌/◌, ◌%◌, ◌^◌, ◌≤◌, ◌<◌}
use Rattle.std.specs.Prelude.{sum_by}
use Rattle.std.specs.List.{range_with_len}
use Rattle.std.proofs.lemmas.List.Sums.{sum_by-le}
use Rattle.std.proofs.lemmas.List.FromFn.{length-range_with_len}
use native.Mathlib.Omega.{arith}
use lib.Dec.{eqb, leb}
use lib.ListN.{get_or}
use Rattle.spec.specs.Basics.{pick, both}
use Rattle.spec.specs.declared.Role.{Role}
use Rattle.spec.specs.declared.Role.TheVariants as R
use Rattle.spec.specs.declared.Size.{Size}
use Rattle.spec.specs.declared.Size.TheVariants as S
use Rattle.spec.specs.Places.{chunk_lines, directory_word}
use Rattle.places.specs.Sizes.{power_of}
use Rattle.theory_base.proofs.Places.{lines-words, words-most, units-most}
use Rattle.theory_base.proofs.Sizes.{size_is}
use Rattle.spec.specs.Directory.{is_size, role_by, role_of, lines_in, size_in, is_log, role_at, lines_of, size_of}
use Rattle.theory_base.proofs.Lists.{both_l}
use Rattle.theory_log.proofs.Directory.{word-lines, lines-is, size_is as size-said}
use Rattle.codec.proofs.Roles.{data-role}

-- the powers are 12 and 16
pub low : (s : Size) → 12 ≤ power_of s
low S.Small = omega arith
low S.Large = omega arith

pub high : (s : Size) → power_of s ≤ 16
high S.Small = omega arith
high S.Large = omega arith

lines-most : (s : Size) → chunk_lines (power_of s) ≤ 1024
lines-most s = let a = lines-words (power_of s) (low s) (high s) in let b = words-most (power_of s) (low s) (high s) in omega arith

-- what the code finds from the role
pub lines-found : (s : Size) (ws : List ℕ) (c : ℕ) (r : Role) → role_at (power_of s) ws c ≡ r → (lines_in r ≡ lines_of (power_of s) ws c) × (lines_in r ≤ 1024)
lines-found s ws c r e =
    let l = word-lines (power_of s) (get_or ws (directory_word c) 0) in
    let m = lines-most s in
    let l' : lines_in r ≤ chunk_lines (power_of s) = rw e at l in
    (rw (lines-is (power_of s) ws c, e), omega arith)

-- any word's
pub lines-few : (s : Size) (ws : List ℕ) (c : ℕ) → lines_of (power_of s) ws c ≤ 1024
lines-few s ws c = let f = lines-found s ws c _ refl in omega (arith, f.0, f.1)

-- the sum over fewer than 2 ^ 52 chunks
pub lines-fit : (s : Size) (ws : List ℕ) (n : ℕ) → n < 2 ^ 52 → sum_by (lines_of (power_of s) ws) (range_with_len 1 (n - 1)) < 2 ^ 64
lines-fit s ws n h =
    let cs = range_with_len 1 (n - 1) in
    omega (arith, sum_by-le (lines_of (power_of s) ws) 1024 cs (λ k d h. lines-few s ws _), length-range_with_len 1 (n - 1))

size-bound : (z : Size) (w : ℕ) (r : Role) → role_of (power_of z) w ≡ r → size_in r ≤ 256
size-bound z w R.Free e = omega arith
size-bound z w (R.Log n) e = omega arith
size-bound z w (R.Data s) e = let a = (size_is (power_of z) s (data-role (power_of z) w s e).0).1 in let b = units-most (power_of z) (low z) (high z) in omega arith
size-bound z w R.Wrong e = omega arith

pub size-found : (z : Size) (ws : List ℕ) (c : ℕ) (r : Role) → role_at (power_of z) ws c ≡ r → (size_in r ≡ size_of (power_of z) ws c) × (size_in r ≤ 256)
size-found z ws c r e = (rw (size-said (power_of z) ws c, e), size-bound z (get_or ws (directory_word c) 0) r e)

by-log : (p low high : ℕ) → is_log (role_by p low high) ≡ leb 1 (lines_in (role_by p low high))
by-log p low high = go (eqb low 0) (eqb high 0) (eqb low 1) (both (leb 1 high) (leb high (chunk_lines p))) refl (eqb low 2) (is_size p high)
  where
    go : (b0 b1 b2 b3 : Bool) → both (leb 1 high) (leb high (chunk_lines p)) ≡ b3 → (b4 b5 : Bool)
        → is_log (pick b0 (pick b1 R.Free R.Wrong) (pick b2 (pick b3 (R.Log high) R.Wrong) (pick b4 (pick b5 (R.Data high) R.Wrong) R.Wrong)))
        ≡ leb 1 (lines_in (pick b0 (pick b1 R.Free R.Wrong) (pick b2 (pick b3 (R.Log high) R.Wrong) (pick b4 (pick b5 (R.Data high) R.Wrong) R.Wrong))))
    go true true b2 b3 e b4 b5 = refl
    go true false b2 b3 e b4 b5 = refl
    go false b1 true true e b4 b5 = sym (both_l (leb 1 high) (leb high (chunk_lines p)) e)
    go false b1 true false e b4 b5 = refl
    go false b1 false b3 e true true = refl
    go false b1 false b3 e true false = refl
    go false b1 false b3 e false b5 = refl

pub log-lines : (p : ℕ) (ws : List ℕ) (c : ℕ) → is_log (role_at p ws c) ≡ leb 1 (lines_of p ws c)
unfolding role_of
log-lines p ws c = rw (lines-is p ws c) (by-log p (get_or ws (directory_word c) 0 % 256) (get_or ws (directory_word c) 0 / 256))
