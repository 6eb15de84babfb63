-- Directory words: what is said of each role's word, made and read.
-- Assumes nothing.
use Rattle.std.proofs.Common.{◌≡◌, ℕ, ◌≤◌, true, refl, arith}
use Rattle.std.proofs.lemmas.Bool.Decides.{nat_tests}
use Rattle.spec.specs.Places.{chunk_lines}
use Rattle.spec.specs.Directory.{is_size, role_of, log_word, data_word, freed_word}
use Rattle.spec.specs.declared.Role.TheVariants as R

-- a word that is made says what it was made for
pub role-log : (p old n : ℕ) → 1 ≤ n → n ≤ chunk_lines p → role_of p (log_word old n) ≡ R.Log n
unfolding role_of
role-log p old n low high = grind (arith, nat_tests)

pub role-data : (p old s : ℕ) → is_size p s ≡ true → role_of p (data_word old s) ≡ R.Data s
unfolding role_of
role-data p old s size = grind (arith, nat_tests)

pub role-freed : (p old : ℕ) → role_of p (freed_word old) ≡ R.Free
unfolding role_of
role-freed p old = refl

-- a right word is made again from what it says
pub log-role : (p w n : ℕ) → role_of p w ≡ R.Log n → (1 ≤ n) × (n ≤ chunk_lines p) × (log_word w n ≡ w)
unfolding role_of
log-role p w n e = (grind (arith, nat_tests), grind (arith, nat_tests), grind (arith, nat_tests))

pub data-role : (p w s : ℕ) → role_of p w ≡ R.Data s → (is_size p s ≡ true) × (data_word w s ≡ w)
unfolding role_of
data-role p w s e = (grind (arith, nat_tests), grind (arith, nat_tests))

pub free-role : (p w : ℕ) → role_of p w ≡ R.Free → w ≡ 0
unfolding role_of
free-role p w e = grind (arith, nat_tests)
