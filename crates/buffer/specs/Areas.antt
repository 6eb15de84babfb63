-- The station record's buffer, area by area: where each starts, and how much it holds. Each number stands here once,
-- and in the code beside it, by the names in capitals. The areas are those of the larger of the two chunk sizes.
-- Assumes nothing.
--
--   words          | area           | what they hold
--   0 to 511       | batch, BATCH   | the staged entries, as a commit writes them
--   512 to 8703    | second, SECOND | in a cleaning: the entries that it keeps, as a commit writes them; in a staging
--                  |                | with actions, 512: the value's length in bytes, 513 on: its words, zero-filled
--   8704 to 10719  | bits, BITS     | the blocks in use: unit u is bit u % 64 of word 8704 + u / 64
--   10720          | filter, FILTER | a bit for each staged key; up to 10751 to spare
--   10752 to 11263 | sums, SUMS     | for each chunk the words of its chosen entries: of chunk c, word 10752 + c
use Rattle.std.specs.Prelude.{ℕ, ◌+◌, ◌/◌}
use Rattle.places.specs.Sizes.{unit_count}
use Rattle.spec.specs.declared.Size.{Size}
use Rattle.spec.specs.declared.Size.TheVariants as S

-- the batch; it stands first, so that its word i is word i of the buffer
abbrev pub batch_start : ℕ
batch_start = 0

abbrev pub batch_room : ℕ
batch_room = 512

-- the second area, which has room for the words of a large chunk
abbrev pub second_start : ℕ
second_start = batch_start + batch_room

abbrev pub second_room : ℕ
second_room = 8192

-- the bits, of the units of 504 chunks
abbrev pub bits_start : ℕ
bits_start = second_start + second_room

-- behind the bits of a size, and behind the area
abbrev pub bits_end_of : Size → ℕ
bits_end_of size = bits_start + unit_count size / 64

abbrev pub bits_end : ℕ
bits_end = bits_end_of S.Large

-- the filter's word
abbrev pub filter_place : ℕ
filter_place = bits_end

-- the sums, of so many chunks
abbrev pub sums_start : ℕ
sums_start = filter_place + 32

abbrev pub sums_count : ℕ
sums_count = 512

-- all words: the length of each array `buffer::Buffer`
abbrev pub buffer_words : ℕ
buffer_words = sums_start + sums_count
