-- The laws of header and directory: which words are right, what the made words say, and the tests over the whole
-- directory.
-- Assumes nothing.
use Rattle.std.proofs.lemmas.Bool.Decides.{nat_tests}
use mathlib.Core.Path.{◌≡◌, refl, ap}
use mathlib.Core.Logic.{◌⊎◌, inl, inr}
use mathlib.Core.Bool.{Bool, true, false}
use mathlib.Core.List.{List, [], ◌∷◌}
use Prim.Native.Nat.{ℕ, zero, suc, ◌+◌, ◌/◌, ◌%◌, ◌≤◌, ◌<◌}
use native.Mathlib.Omega.{arith}
use lib.Dec.{eqb, leb, ltb}
use lib.ListN.{get_or, drop}
use lib.Seq.{get_or-drop}
use borrow.Author.Tests.{leb-true, le-leb, lt-ltb}
use Rattle.spec.specs.Basics.{pick, both}
use Rattle.spec.specs.Places.{chunk_lines, directory_word, max_chunks}
use Rattle.spec.specs.Header.{header_right, header_power}
use Rattle.spec.specs.Directory.{is_size, role_by, role_of, lines_in, size_in, is_free, is_log, is_role, directory_right, directory_from, log_word, data_word, freed_word}
use Rattle.spec.specs.Opening.{directory_test}
use Rattle.spec.specs.declared.Role.{Role}
use Rattle.spec.specs.declared.Role.TheVariants as R
use Rattle.theory_base.proofs.Lists.{both_l, both_r, both-i}
use Rattle.theory_base.proofs.Sizes as Z
use Rattle.theory_log.proofs.Directory.{role-log, role-data, role-freed}
use Rattle.theory_crash.specs.Accepted.{Calm}

-- Roles.
pub data-no-lines : (r : Role) → 1 ≤ size_in r → lines_in r ≡ 0
data-no-lines R.Free h = refl
data-no-lines (R.Log n) h = absurd (omega arith)
data-no-lines (R.Data s) h = refl
data-no-lines R.Wrong h = refl

pub log-no-size : (r : Role) → 1 ≤ lines_in r → size_in r ≡ 0
log-no-size R.Free h = refl
log-no-size (R.Log n) h = refl
log-no-size (R.Data s) h = absurd (omega arith)
log-no-size R.Wrong h = refl

pub free-says : (r : Role) → is_free r ≡ true → (lines_in r ≡ 0) × (size_in r ≡ 0)
free-says R.Free h = (refl, refl)
free-says (R.Log n) h = absurd (let z : ◌≡◌ {A = ℕ} 0 1 = cc in omega arith)
free-says (R.Data s) h = absurd (let z : ◌≡◌ {A = ℕ} 0 1 = cc in omega arith)
free-says R.Wrong h = absurd (let z : ◌≡◌ {A = ℕ} 0 1 = cc in omega arith)

pub log-says : (r : Role) → is_log r ≡ true → size_in r ≡ 0
log-says R.Free h = refl
log-says (R.Log n) h = refl
log-says (R.Data s) h = absurd (let z : ◌≡◌ {A = ℕ} 0 1 = cc in omega arith)
log-says R.Wrong h = refl

pub not-log-says : (r : Role) → is_log r ≡ false → lines_in r ≡ 0
not-log-says R.Free h = refl
not-log-says (R.Log n) h = absurd (let z : ◌≡◌ {A = ℕ} 0 1 = cc in omega arith)
not-log-says (R.Data s) h = refl
not-log-says R.Wrong h = refl

pub role-zero : (p : ℕ) → role_of p 0 ≡ R.Free
unfolding role_of
role-zero p = refl

-- a word that says data has one of the sizes
by_size : (p low high : ℕ) → 1 ≤ size_in (role_by p low high) → is_size p (size_in (role_by p low high)) ≡ true
by_size p low high h = grind (arith, nat_tests)

pub word_size : (p w : ℕ) → 1 ≤ size_in (role_of p w) → is_size p (size_in (role_of p w)) ≡ true
unfolding role_of
word_size p w h = by_size p (w % 256) (w / 256) h

-- a word that says a role, and neither lines nor a size, says free
by-free : (p low high : ℕ) → is_role (role_by p low high) ≡ true → size_in (role_by p low high) ≡ 0 → lines_in (role_by p low high) ≡ 0 → is_free (role_by p low high) ≡ true
by-free p low high h = go (eqb low 0) (eqb high 0) (eqb low 1) (both (leb 1 high) (leb high (chunk_lines p))) refl (eqb low 2) (is_size p high) refl h
  where
    go : (b0 b1 b2 b3 : Bool) → both (leb 1 high) (leb high (chunk_lines p)) ≡ b3 → (b4 b5 : Bool) → is_size p high ≡ b5
        → is_role (pick b0 (pick b1 R.Free R.Wrong) (pick b2 (pick b3 (R.Log high) R.Wrong) (pick b4 (pick b5 (R.Data high) R.Wrong) R.Wrong))) ≡ true
        → size_in (pick b0 (pick b1 R.Free R.Wrong) (pick b2 (pick b3 (R.Log high) R.Wrong) (pick b4 (pick b5 (R.Data high) R.Wrong) R.Wrong))) ≡ 0
        → lines_in (pick b0 (pick b1 R.Free R.Wrong) (pick b2 (pick b3 (R.Log high) R.Wrong) (pick b4 (pick b5 (R.Data high) R.Wrong) R.Wrong))) ≡ 0
        → is_free (pick b0 (pick b1 R.Free R.Wrong) (pick b2 (pick b3 (R.Log high) R.Wrong) (pick b4 (pick b5 (R.Data high) R.Wrong) R.Wrong))) ≡ true
    go true true b2 b3 e b4 b5 f x y z = refl
    go true false b2 b3 e b4 b5 f x y z = x
    go false b1 true true e b4 b5 f x y z = absurd (let l = leb-true 1 high (both_l (leb 1 high) (leb high (chunk_lines p)) e) in omega arith)
    go false b1 true false e b4 b5 f x y z = x
    go false b1 false b3 e true true f x y z = absurd (let l = (Z.size_is p high f).0 in omega arith)
    go false b1 false b3 e true false f x y z = x
    go false b1 false b3 e false b5 f x y z = x

pub word-free : (p w : ℕ) → is_role (role_of p w) ≡ true → size_in (role_of p w) ≡ 0 → lines_in (role_of p w) ≡ 0 → is_free (role_of p w) ≡ true
unfolding role_of
word-free p w a b c = by-free p (w % 256) (w / 256) a b c

pub right-role : (p n c w : ℕ) → 1 ≤ c → c < n → directory_right p n c w ≡ true → is_role (role_of p w) ≡ true
unfolding directory_right
right-role p n c w a b h = rw (le-leb 1 c a, lt-ltb c n b) at h

-- The word of a chunk of the image; only such a chunk is in use.
pub role-right : (p n c w : ℕ) → 1 ≤ c → c < n → is_role (role_of p w) ≡ true → directory_right p n c w ≡ true
unfolding directory_right
role-right p n c w l h e = rw (le-leb 1 c l, lt-ltb c n h) e

pub right-inside : (p n c w : ℕ) → directory_right p n c w ≡ true → ((1 ≤ c) × (c < n)) ⊎ (w ≡ 0)
unfolding directory_right
right-inside p n c w h = grind (arith, nat_tests)

pub lines-inside : (p n c w : ℕ) → directory_right p n c w ≡ true → 1 ≤ lines_in (role_of p w) → (1 ≤ c) × (c < n)
lines-inside p n c w h l = go (right-inside p n c w h)
  where
    go : ((1 ≤ c) × (c < n)) ⊎ (w ≡ 0) → (1 ≤ c) × (c < n)
    go (inl i) = i
    go (inr z) = absurd (let y : 1 ≤ 0 = rw (z, role-zero p) at l in omega arith)

-- what the made words say
pub log-word : (p n c old l : ℕ) → 1 ≤ c → c < n → 1 ≤ l → l ≤ chunk_lines p → (directory_right p n c (log_word old l) ≡ true) × (lines_in (role_of p (log_word old l)) ≡ l)
log-word p n c old l a b h k = let q = role-log p old l h k in (role-right p n c (log_word old l) a b (ap is_role q), ap lines_in q)

pub data-word : (p n c old s : ℕ) → 1 ≤ c → c < n → is_size p s ≡ true → Calm p n c (data_word old s) × (size_in (role_of p (data_word old s)) ≡ s)
data-word p n c old s a b h = let q = role-data p old s h in ((role-right p n c (data_word old s) a b (ap is_role q), ap lines_in q), ap size_in q)

pub freed-word : (p n c old : ℕ) → 1 ≤ c → c < n → Calm p n c (freed_word old) × (size_in (role_of p (freed_word old)) ≡ 0)
freed-word p n c old a b = let q = role-freed p old in ((role-right p n c (freed_word old) a b (ap is_role q), ap lines_in q), ap size_in q)

pub zero_word : (p n c : ℕ) → Calm p n c 0
unfolding directory_right
zero_word p n c = (go (both (leb 1 c) (ltb c n)), ap lines_in (role-zero p))
  where
    go : (b : Bool) → pick b (is_role (role_of p 0)) true ≡ true
    go true = ap is_role (role-zero p)
    go false = refl

-- The directory's test is of each chunk's word.
from_each : (p n i c : ℕ) (ws : List ℕ) → directory_from p n i c ws ≡ true → (j : ℕ) → j < i → directory_right p n (c + j) (get_or ws j 0) ≡ true
from_each p n zero c ws h j l = absurd (omega arith)
from_each p n (suc i) c [] h zero l = let e : c + 0 ≡ c = omega arith in rw e (both_l (directory_right p n c 0) (directory_from p n i (suc c) []) h)
from_each p n (suc i) c [] h (suc j) l =
    let e : c + suc j ≡ suc c + j = omega arith in rw e (from_each p n i (suc c) [] (both_r (directory_right p n c 0) (directory_from p n i (suc c) []) h) j (omega arith))
from_each p n (suc i) c (w ∷ ws) h zero l = let e : c + 0 ≡ c = omega arith in rw e (both_l (directory_right p n c w) (directory_from p n i (suc c) ws) h)
from_each p n (suc i) c (w ∷ ws) h (suc j) l =
    let e : c + suc j ≡ suc c + j = omega arith in rw e (from_each p n i (suc c) ws (both_r (directory_right p n c w) (directory_from p n i (suc c) ws) h) j (omega arith))

each_from : (p n i c : ℕ) (ws : List ℕ) → ((j : ℕ) → j < i → directory_right p n (c + j) (get_or ws j 0) ≡ true) → directory_from p n i c ws ≡ true
each_from p n zero c ws h = refl
each_from p n (suc i) c [] h =
    both-i (directory_right p n c 0) (directory_from p n i (suc c) []) (let e : c + 0 ≡ c = omega arith in rw e at (h 0 (omega arith)))
    (each_from p n i (suc c) [] (λ j l. let e : c + suc j ≡ suc c + j = omega arith in rw e at (h (suc j) (omega arith))))
each_from p n (suc i) c (w ∷ ws) h =
    both-i (directory_right p n c w) (directory_from p n i (suc c) ws) (let e : c + 0 ≡ c = omega arith in rw e at (h 0 (omega arith)))
    (each_from p n i (suc c) ws (λ j l. let e : c + suc j ≡ suc c + j = omega arith in rw e at (h (suc j) (omega arith))))

pub test-each : (p n : ℕ) (ws : List ℕ) → directory_test p n ws ≡ true → (c : ℕ) → c < max_chunks → directory_right p n c (get_or ws (directory_word c) 0) ≡ true
test-each p n ws h c l = let e : 0 + c ≡ c = omega arith in rw (← get_or-drop 8 ws c 0) (rw e at (from_each p n max_chunks 0 (drop 8 ws) h c l))

pub each-test : (p n : ℕ) (ws : List ℕ) → ((c : ℕ) → c < max_chunks → directory_right p n c (get_or ws (directory_word c) 0) ≡ true) → directory_test p n ws ≡ true
each-test p n ws h = each_from p n max_chunks 0 (drop 8 ws) (λ c l. let e : 0 + c ≡ c = omega arith in rw (e, get_or-drop 8 ws c 0) (h c l))

-- The header looks at the header line alone.
pub header-agree : (n : ℕ) (ws vs : List ℕ) → ((k : ℕ) → k < 8 → get_or vs k 0 ≡ get_or ws k 0) → header_right n vs ≡ header_right n ws
header-agree n ws vs h = rw (h 0 (omega arith), h 1 (omega arith), h 2 (omega arith), h 3 (omega arith), h 4 (omega arith), h 5 (omega arith), h 6 (omega arith), h 7 (omega arith))

pub power-agree : (ws vs : List ℕ) → ((k : ℕ) → k < 8 → get_or vs k 0 ≡ get_or ws k 0) → header_power vs ≡ header_power ws
power-agree ws vs h = rw (h 0 (omega arith), h 2 (omega arith), h 3 (omega arith), h 4 (omega arith))
