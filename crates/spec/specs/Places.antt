-- All address arithmetic. A chunk has 2^p bytes (p is 12 or 16, as the header says), a line 64, a word 8, a unit 256.
-- Assumes nothing.
--
--   image   | chunk 0                       | chunk 1 | chunk 2 | ... | chunk n - 1 |
--   chunk 0 | header: words 0 to 7 | directory: words 8 to 511, the word of chunk c is word 8 + c | the rest unused |
--
--   line l of the image is words 8 · l to 8 · l + 7; unit u of the image is words 32 · u to 32 · u + 31
use Rattle.std.specs.Prelude.{Bool, ℕ, ◌+◌, ◌-◌, ◌*◌, ◌/◌, ◌%◌, ◌^◌, eqb, leb}
use Rattle.spec.specs.Basics.{both, either}

-- the chunk powers: of small chunks, which a header that says none has, and of large ones
abbrev pub base_power : ℕ
base_power = 12

abbrev pub large_power : ℕ
large_power = 16

-- R2
abbrev pub is_power : ℕ → Bool
is_power p = either (eqb p base_power) (eqb p large_power)

-- R2
unfoldable pub chunk_bytes : ℕ → ℕ
chunk_bytes p = 2 ^ p

unfoldable pub chunk_words : ℕ → ℕ
chunk_words p = 2 ^ (p - 3)

-- R91
unfoldable pub chunk_lines : ℕ → ℕ
chunk_lines p = 2 ^ (p - 6)

-- R91
unfoldable pub chunk_units : ℕ → ℕ
chunk_units p = 2 ^ (p - 8)

-- the first word, line and unit of chunk c
unfoldable pub base : ℕ → ℕ → ℕ
base p c = c * chunk_words p

unfoldable pub first_line : ℕ → ℕ → ℕ
first_line p c = c * chunk_lines p

unfoldable pub first_unit : ℕ → ℕ → ℕ
first_unit p c = c * chunk_units p

-- the chunk of word w; the chunk of unit u, and its place there
unfoldable pub word_chunk : ℕ → ℕ → ℕ
word_chunk p w = w / chunk_words p

-- R10
unfoldable pub unit_chunk : ℕ → ℕ → ℕ
unit_chunk p u = u / chunk_units p

-- R10
unfoldable pub unit_in : ℕ → ℕ → ℕ
unit_in p u = u % chunk_units p

-- the directory word of chunk c; the directory has 504 words
-- R5
abbrev pub directory_word : ℕ → ℕ
directory_word c = 8 + c

-- R5
abbrev pub max_chunks : ℕ
max_chunks = 504

-- the line of word w, and the first word of unit u
-- R2
abbrev pub line_of : ℕ → ℕ
line_of w = w / 8

-- R2, R10
abbrev pub unit_word : ℕ → ℕ
unit_word u = 32 * u

-- how many chunks an image of so many bytes has, and whether that length is allowed: 4 to 504 whole chunks
unfoldable pub chunks_in : ℕ → ℕ → ℕ
chunks_in p bytes = bytes / chunk_bytes p

-- R2
unfoldable pub length_allowed : ℕ → ℕ → Bool
length_allowed p bytes = both (eqb (bytes % chunk_bytes p) 0) (both (leb 4 (chunks_in p bytes)) (leb (chunks_in p bytes) max_chunks))

-- a power that there is, and a length allowed for it; a length allowed for one of the powers
-- R24
unfoldable pub size_allowed : ℕ → ℕ → Bool
size_allowed p bytes = both (is_power p) (length_allowed p bytes)

-- R24
unfoldable pub any_allowed : ℕ → Bool
any_allowed bytes = either (length_allowed base_power bytes) (length_allowed large_power bytes)
