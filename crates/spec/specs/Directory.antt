-- The directory: what the word of a chunk says, which words are right, and how a new word is made from the old.
-- Assumes nothing.
--
--   bits    | meaning
--   0 to 1  | role: 0 free (then the whole word is 0), 1 log, 2 data
--   2 to 7  | 0
--   8 up    | log: committed lines, 1 to the chunk's lines; data: block size in units of 256 bytes
use Rattle.std.specs.Prelude.{Bool, true, false, List, [], ◌∷◌, ℕ, zero, suc, ◌+◌, ◌-◌, ◌*◌, ◌/◌, ◌%◌, eqb, leb, ltb, get_or}
use Rattle.spec.specs.Basics.{pick, both, filter, up_from}
use Rattle.spec.specs.Places.{chunk_lines, chunk_units, directory_word}
use Rattle.spec.specs.declared.Role.{Role}
use Rattle.spec.specs.declared.Role.TheVariants as R

-- Block sizes: a chunk is shared out evenly, so a block of the size for u units is the chunk's units divided by
-- (these divided by u). In chunks of 16 units the sizes are 2, 3, 4, 5, 8 and 16, with 8, 5, 4, 3, 2 and 1 blocks.
-- R15, R91
unfoldable pub size_for : ℕ → ℕ → ℕ
size_for p u = chunk_units p / (chunk_units p / u)

-- R15
unfoldable pub is_size : ℕ → ℕ → Bool
is_size p s = both (leb 2 s) (both (leb s (chunk_units p)) (eqb (size_for p s) s))

-- what a directory word says, from its low eight bits and the rest
-- R6
abbrev pub role_by : ℕ → ℕ → ℕ → Role
role_by p low high =
    pick (eqb low 0) (pick (eqb high 0) R.Free R.Wrong)
    (pick (eqb low 1) (pick (both (leb 1 high) (leb high (chunk_lines p))) (R.Log high) R.Wrong)
    (pick (eqb low 2) (pick (is_size p high) (R.Data high) R.Wrong) R.Wrong))

-- R6
unfoldable pub role_of : ℕ → ℕ → Role
role_of p w = role_by p (w % 256) (w / 256)

-- the committed lines, 0 unless a log chunk's; the block size, 0 unless a data chunk's
abbrev pub lines_in : Role → ℕ
lines_in R.Free = 0
lines_in (R.Log n) = n
lines_in (R.Data s) = 0
lines_in R.Wrong = 0

abbrev pub size_in : Role → ℕ
size_in R.Free = 0
size_in (R.Log n) = 0
size_in (R.Data s) = s
size_in R.Wrong = 0

abbrev pub is_free : Role → Bool
is_free R.Free = true
is_free (R.Log n) = false
is_free (R.Data s) = false
is_free R.Wrong = false

abbrev pub is_log : Role → Bool
is_log R.Free = false
is_log (R.Log n) = true
is_log (R.Data s) = false
is_log R.Wrong = false

abbrev pub is_data : Role → Bool
is_data R.Free = false
is_data (R.Log n) = false
is_data (R.Data s) = true
is_data R.Wrong = false

abbrev pub is_role : Role → Bool
is_role R.Free = true
is_role (R.Log n) = true
is_role (R.Data s) = true
is_role R.Wrong = false

-- the word of chunk c is right, in an image of n chunks: the words of chunk 0 and of chunks past the count are 0
-- R7
unfoldable pub directory_right : ℕ → ℕ → ℕ → ℕ → Bool
directory_right p n c w = pick (both (leb 1 c) (ltb c n)) (is_role (role_of p w)) (eqb w 0)

-- the words of chunks c and on, of which `ws` are the directory's rest
abbrev pub directory_from : ℕ → ℕ → ℕ → ℕ → List ℕ → Bool
directory_from p n zero c ws = true
directory_from p n (suc i) c [] = both (directory_right p n c 0) (directory_from p n i (suc c) [])
directory_from p n (suc i) c (w ∷ ws) = both (directory_right p n c w) (directory_from p n i (suc c) ws)

-- what the directory says of chunk c
abbrev pub role_at : ℕ → List ℕ → ℕ → Role
role_at p ws c = role_of p (get_or ws (directory_word c) 0)

unfoldable pub lines_of : ℕ → List ℕ → ℕ → ℕ
lines_of p ws c = lines_in (role_at p ws c)

unfoldable pub size_of : ℕ → List ℕ → ℕ → ℕ
size_of p ws c = size_in (role_at p ws c)

-- the free chunks of n, rising, and which of them is taken where one is
abbrev pub free_chunks : ℕ → ℕ → List ℕ → List ℕ
free_chunks p n ws = filter (λ c. is_free (role_at p ws c)) (up_from 1 (n - 1))

-- The new word of a chunk, from the old: a log chunk's with so many lines, a data chunk's of a block size, a freed
-- chunk's.
abbrev pub log_word : ℕ → ℕ → ℕ
log_word old lines = 1 + 256 * lines

abbrev pub data_word : ℕ → ℕ → ℕ
data_word old size = 2 + 256 * size

abbrev pub freed_word : ℕ → ℕ
freed_word old = 0
