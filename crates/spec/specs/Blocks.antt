-- Blocks of large values: when a block is right, and the value that it holds.
-- Assumes nothing.
--
--   block at unit u | word 32 · u: the value's length in bytes, then the value, zero-filled to 8 bytes; the rest is
--   free
use Rattle.std.specs.Prelude.{Bool, true, List, [], ◌∷◌, ◌++◌, ℕ, ◌+◌, ◌-◌, ◌*◌, ◌/◌, ◌%◌, ◌^◌, eqb, leb, ltb, get_or}
use Rattle.std.proofs.Math.Seq.{slice}
use Rattle.spec.specs.Basics.{pick, both, every}
use Rattle.spec.specs.Words.{value_bytes}
use Rattle.spec.specs.Places.{chunk_units, unit_chunk, unit_in, unit_word}
use Rattle.spec.specs.Directory.{size_of, size_for}
use Rattle.spec.specs.Log.{Entry, max_in_log}

-- the largest value of a block: the whole chunk but the length word (4,088 bytes in chunks of 4,096, 65,528 in those of
-- 65,536)
-- R14, R49
unfoldable pub block_limit : ℕ → ℕ
block_limit p = 256 * chunk_units p - 8

-- the units that a value of so many bytes needs, and the block size that it gets: the smallest that fits
unfoldable pub units_for : ℕ → ℕ
units_for bytes = (8 + bytes + 255) / 256

-- R16
unfoldable pub block_size : ℕ → ℕ → ℕ
block_size p bytes = size_for p (units_for bytes)

-- unit u starts a block of s units
-- R15
abbrev pub start_tests : ℕ → ℕ → ℕ → ℕ → List Bool
start_tests p n u s =
    leb 1 (unit_chunk p u) ∷ ltb (unit_chunk p u) n ∷ leb 1 s ∷ eqb (unit_in p u % s) 0 ∷ leb (unit_in p u + s) (chunk_units p) ∷ []

-- len: the block's first word; last: the word that the value ends in, if it ends within one
-- R16
abbrev pub length_tests : ℕ → ℕ → ℕ → List Bool
length_tests s len last =
    leb (max_in_log + 1) len ∷ leb (len + 8) (256 * s) ∷ pick (eqb (len % 8) 0) true (ltb last (256 ^ (len % 8))) ∷ []

unfoldable pub block_test : ℕ → ℕ → ℕ → ℕ → ℕ → ℕ → Bool
block_test p n u s len last = every (start_tests p n u s ++ length_tests s len last)

-- unit u of an image of n chunks starts a block, its length is right and its fill is zero
-- R14
abbrev pub block_right : ℕ → ℕ → List ℕ → ℕ → Bool
block_right p n ws u =
    block_test p n u (size_of p ws (unit_chunk p u)) (get_or ws (unit_word u) 0) (get_or ws (unit_word u + (get_or ws (unit_word u) 0 + 7) / 8) 0)

-- a put whose value is in a block
abbrev pub pointed : Entry → Bool
pointed e = both (eqb e.op 1) (eqb e.placement 1)

-- how many words the value at unit u takes, and its bytes
abbrev pub block_words : List ℕ → ℕ → ℕ
block_words ws u = (get_or ws (unit_word u) 0 + 7) / 8

abbrev pub block_bytes : List ℕ → ℕ → List ℕ
block_bytes ws u = value_bytes (get_or ws (unit_word u) 0) (slice (unit_word u + 1) (unit_word u + 1 + block_words ws u) ws)
