-- For every clause of an opening's refusals 1 to 7: an image that is refused by it, and its nearest neighbour that is
-- accepted.
-- Assumes nothing.
use mathlib.Core.List.{List, [], ◌∷◌, ◌++◌}
use Prim.Native.Nat.{ℕ, ◌+◌}
use lib.Dec.{T}
use Rattle.spec.specs.Basics.{both, all}
use Rattle.spec.specs.Places.{base_power, large_power, base, chunk_bytes, chunk_words, chunk_lines, chunk_units, chunks_in, length_allowed, unit_chunk, unit_in, size_allowed, any_allowed}
use Rattle.spec.specs.Header.{header_tail, header_words, header_test, fields_test, power_said, power_bit, power_field}
use Rattle.spec.specs.Directory.{role_of, lines_of, size_of, size_for, is_size, directory_right}
use Rattle.spec.specs.Log.{first_of_word, step_of}
use Rattle.spec.specs.Blocks.{block_test}
use Rattle.spec.specs.Contents.{chosen, tops, capacity}
use Rattle.spec.specs.Opening.{opening}
use Rattle.std.specs.declared.option.Option.TheVariants as G
use Rattle.examples.specs.Images.{image, Case, case_holds, refused, refuses, Faults, faults_hold, faults, faulty, lent, with, changed, ◌becomes◌, first, log, blocks, minus}

-- the image as it is; in its place the header of an empty register of n chunks (words past the end of a list count as
-- 0)
abbrev same : List ℕ → List ℕ
same ws = ws

abbrev empty : ℕ → List ℕ → List ℕ
empty n ws = header_words base_power n G.None G.None

abbrev empty_large : ℕ → List ℕ → List ℕ
empty_large n ws = header_words large_power n G.None G.None

-- four large chunks, with this directory word of chunk 1
abbrev large_with : ℕ → List ℕ → List ℕ
large_with w ws = empty_large 4 ws ++ (0 ∷ w ∷ [])

abbrev cases : List Case
cases =
    -- 1: 4,095 bytes; no bytes; not whole chunks, by a byte and by a word; three chunks; 505 chunks
    refused 1 (lent same 4095 64) (lent same 16384 64)
    ∷ refused 1 (lent same 0 64) (lent same 16384 64)
    ∷ refused 1 (lent same 16385 64) (lent same 16384 64)
    ∷ refused 1 (lent same 16392 64) (lent same 16384 64)
    ∷ refused 1 (lent same 12288 64) (lent same 16384 64)
    ∷ refused 1 (lent (empty 505) 2068480 64) (lent (empty 504) 2064384 64)
    -- 1: 505 large chunks
    ∷ refused 1 (lent (empty_large 505) 33095680 64) (lent (empty_large 504) 33030144 64)
    -- 2: word 0 = 0
    ∷ refuses 2 (0 becomes 0 ∷ []) []
    -- 2: a bit map without bit 0, though word 1 is the count and the sum is right
    ∷ refuses 2 (0 becomes 2 ∷ 7 becomes minus 6 ∷ []) (0 becomes 3 ∷ 7 becomes minus 7 ∷ [])
    ∷ refuses 2 (0 becomes 4 ∷ 7 becomes minus 8 ∷ []) (0 becomes 5 ∷ 7 becomes minus 9 ∷ [])
    ∷ refuses 2 (0 becomes 6 ∷ 7 becomes minus 10 ∷ []) (0 becomes 7 ∷ 7 becomes minus 11 ∷ [])
    -- 2: a power that is not there, in the place that its field has by the map; a power absent where a field stands
    ∷ refuses 2 (0 becomes 9 ∷ 2 becomes 13 ∷ 7 becomes minus 26 ∷ []) (0 becomes 9 ∷ 2 becomes 12 ∷ 7 becomes minus 25 ∷ [])
    ∷ refuses 2 (0 becomes 11 ∷ 2 becomes 12 ∷ 3 becomes 13 ∷ 7 becomes minus 40 ∷ []) (0 becomes 11 ∷ 2 becomes 13 ∷ 3 becomes 12 ∷ 7 becomes minus 40 ∷ [])
    ∷ refuses 2 (0 becomes 13 ∷ 2 becomes 12 ∷ 3 becomes 13 ∷ 7 becomes minus 42 ∷ []) (0 becomes 13 ∷ 2 becomes 13 ∷ 3 becomes 12 ∷ 7 becomes minus 42 ∷ [])
    ∷ refuses 2 (0 becomes 15 ∷ 3 becomes 12 ∷ 4 becomes 11 ∷ 7 becomes minus 42 ∷ []) (0 becomes 15 ∷ 3 becomes 11 ∷ 4 becomes 12 ∷ 7 becomes minus 42 ∷ [])
    ∷ refuses 2 (0 becomes 9 ∷ 2 becomes 16 ∷ 7 becomes minus 29 ∷ []) (0 becomes 9 ∷ 2 becomes 12 ∷ 7 becomes minus 25 ∷ [])
    -- 2: a length that is allowed, but not for the header's power and count
    ∷ refused 2 (lent (empty_large 3) 196608 64) (lent (empty_large 4) 262144 64)
    ∷ refused 2 (lent (empty 608) 2490368 64) (lent (empty_large 38) 2490368 64)
    ∷ refused 2 (lent (empty_large 64) 262144 64) (lent (empty 64) 262144 64)
    ∷ refused 2 (lent (empty 4) 262144 64) (lent (empty_large 4) 262144 64)
    -- 2: another bit of the map, 3 without its field, 4 and 63
    ∷ refuses 2 (0 becomes 17 ∷ 7 becomes minus 21 ∷ []) (0 becomes 1 ∷ 7 becomes minus 5 ∷ [])
    ∷ refuses 2 (0 becomes 9 ∷ 7 becomes minus 13 ∷ []) (0 becomes 1 ∷ 7 becomes minus 5 ∷ [])
    ∷ refuses 2 (0 becomes 9223372036854775809 ∷ 7 becomes minus 9223372036854775813 ∷ []) (0 becomes 1 ∷ 7 becomes minus 5 ∷ [])
    -- 2: a word that the map leaves unused is not 0; the neighbour has its bit
    ∷ refuses 2 (2 becomes 6 ∷ 7 becomes minus 11 ∷ []) (0 becomes 3 ∷ 2 becomes 6 ∷ 7 becomes minus 13 ∷ [])
    ∷ refuses 2 (3 becomes 6 ∷ 7 becomes minus 11 ∷ []) (0 becomes 7 ∷ 3 becomes 6 ∷ 7 becomes minus 17 ∷ [])
    ∷ refuses 2 (0 becomes 3 ∷ 3 becomes 6 ∷ 7 becomes minus 13 ∷ []) (0 becomes 7 ∷ 3 becomes 6 ∷ 7 becomes minus 17 ∷ [])
    ∷ refuses 2 (0 becomes 5 ∷ 3 becomes 6 ∷ 7 becomes minus 15 ∷ []) (0 becomes 7 ∷ 3 becomes 6 ∷ 7 becomes minus 17 ∷ [])
    -- 2: words 5 and 6 are unused in any map, word 4 in one without bit 3
    ∷ refuses 2 (4 becomes 6 ∷ 7 becomes minus 11 ∷ []) []
    ∷ refuses 2 (0 becomes 7 ∷ 4 becomes 6 ∷ 7 becomes minus 17 ∷ []) (0 becomes 7 ∷ 7 becomes minus 11 ∷ [])
    ∷ refuses 2 (5 becomes 6 ∷ 7 becomes minus 11 ∷ []) []
    ∷ refuses 2 (0 becomes 7 ∷ 5 becomes 6 ∷ 7 becomes minus 17 ∷ []) (0 becomes 7 ∷ 7 becomes minus 11 ∷ [])
    ∷ refuses 2 (6 becomes 6 ∷ 7 becomes minus 11 ∷ []) []
    ∷ refuses 2 (0 becomes 7 ∷ 6 becomes 6 ∷ 7 becomes minus 17 ∷ []) (0 becomes 7 ∷ 7 becomes minus 11 ∷ [])
    -- 2: the words behind the last field are unused, by the map with bit 3 too
    ∷ refuses 2 (0 becomes 9 ∷ 2 becomes 12 ∷ 3 becomes 6 ∷ 7 becomes minus 31 ∷ []) (0 becomes 9 ∷ 2 becomes 12 ∷ 7 becomes minus 25 ∷ [])
    ∷ refuses 2 (0 becomes 9 ∷ 2 becomes 12 ∷ 4 becomes 6 ∷ 7 becomes minus 31 ∷ []) (0 becomes 9 ∷ 2 becomes 12 ∷ 7 becomes minus 25 ∷ [])
    ∷ refuses 2 (0 becomes 11 ∷ 2 becomes 13 ∷ 3 becomes 12 ∷ 4 becomes 6 ∷ 7 becomes minus 46 ∷ []) (0 becomes 11 ∷ 2 becomes 13 ∷ 3 becomes 12 ∷ 7 becomes minus 40 ∷ [])
    ∷ refuses 2 (0 becomes 13 ∷ 2 becomes 13 ∷ 3 becomes 12 ∷ 4 becomes 6 ∷ 7 becomes minus 48 ∷ []) (0 becomes 13 ∷ 2 becomes 13 ∷ 3 becomes 12 ∷ 7 becomes minus 42 ∷ [])
    ∷ refuses 2 (0 becomes 15 ∷ 3 becomes 11 ∷ 4 becomes 12 ∷ 5 becomes 6 ∷ 7 becomes minus 48 ∷ []) (0 becomes 15 ∷ 3 becomes 11 ∷ 4 becomes 12 ∷ 7 becomes minus 42 ∷ [])
    ∷ refuses 2 (0 becomes 15 ∷ 3 becomes 11 ∷ 4 becomes 12 ∷ 6 becomes 6 ∷ 7 becomes minus 48 ∷ []) (0 becomes 15 ∷ 3 becomes 11 ∷ 4 becomes 12 ∷ 7 becomes minus 42 ∷ [])
    -- 2: the sum, one too much and one too little; a sum that wraps; word 7 is 0
    ∷ refuses 2 (7 becomes minus 4 ∷ []) (7 becomes minus 5 ∷ [])
    ∷ refuses 2 (7 becomes minus 6 ∷ []) (7 becomes minus 5 ∷ [])
    ∷ refuses 2 (0 becomes 3 ∷ 2 becomes minus 1 ∷ 7 becomes minus 7 ∷ []) (0 becomes 3 ∷ 2 becomes minus 1 ∷ 7 becomes minus 6 ∷ [])
    ∷ refuses 2 (0 becomes 3 ∷ 2 becomes minus 7 ∷ 7 becomes 1 ∷ []) (0 becomes 3 ∷ 2 becomes minus 7 ∷ 7 becomes 0 ∷ [])
    -- 2: the count is unlike the length
    ∷ refused 2 (lent (changed (1 becomes 5 ∷ 7 becomes minus 6 ∷ [])) 16384 64) (lent (changed (1 becomes 5 ∷ 7 becomes minus 6 ∷ [])) 20480 64)
    ∷ refused 2 (lent same 20480 64) (lent same 16384 64)
    -- 3: role 3, as in the paper and with a block size
    ∷ refuses 3 (11 becomes 3 ∷ []) (11 becomes 0 ∷ [])
    ∷ refuses 3 (11 becomes (blocks 2 + 1) ∷ []) (11 becomes blocks 2 ∷ [])
    -- 3: a bit of 2 to 7, in a word of each role
    ∷ refuses 3 (11 becomes (blocks 2 + 4) ∷ []) (11 becomes blocks 2 ∷ [])
    ∷ refuses 3 (11 becomes (blocks 2 + 8) ∷ []) (11 becomes blocks 2 ∷ [])
    ∷ refuses 3 (11 becomes (blocks 2 + 16) ∷ []) (11 becomes blocks 2 ∷ [])
    ∷ refuses 3 (11 becomes (blocks 2 + 32) ∷ []) (11 becomes blocks 2 ∷ [])
    ∷ refuses 3 (11 becomes (blocks 2 + 64) ∷ []) (11 becomes blocks 2 ∷ [])
    ∷ refuses 3 (11 becomes (blocks 2 + 128) ∷ []) (11 becomes blocks 2 ∷ [])
    ∷ refuses 3 (11 becomes 4 ∷ []) (11 becomes 0 ∷ [])
    ∷ refuses 3 (11 becomes (log 1 + 128) ∷ []) (11 becomes log 1 ∷ [])
    -- 3: free, and the word is not 0
    ∷ refuses 3 (11 becomes 256 ∷ []) (11 becomes 0 ∷ [])
    ∷ refuses 3 (11 becomes 9223372036854775808 ∷ []) (11 becomes 0 ∷ [])
    -- 3: no line, 65 lines, and more than lines can be
    ∷ refuses 3 (11 becomes log 0 ∷ []) (11 becomes log 1 ∷ [])
    ∷ refuses 3 (11 becomes log 65 ∷ []) (11 becomes log 64 ∷ [])
    ∷ refuses 3 (11 becomes (log 1 + 9223372036854775808) ∷ []) (11 becomes log 1 ∷ [])
    -- 3: block sizes
    ∷ refuses 3 (11 becomes blocks 0 ∷ []) (11 becomes blocks 2 ∷ [])
    ∷ refuses 3 (11 becomes blocks 1 ∷ []) (11 becomes blocks 2 ∷ [])
    ∷ refuses 3 (11 becomes blocks 6 ∷ []) (11 becomes blocks 5 ∷ [])
    ∷ refuses 3 (11 becomes blocks 7 ∷ []) (11 becomes blocks 8 ∷ [])
    ∷ refuses 3 (11 becomes blocks 9 ∷ []) (11 becomes blocks 8 ∷ [])
    ∷ refuses 3 (11 becomes blocks 15 ∷ []) (11 becomes blocks 16 ∷ [])
    ∷ refuses 3 (11 becomes blocks 17 ∷ []) (11 becomes blocks 16 ∷ [])
    ∷ refuses 3 (11 becomes (blocks 3 + 9223372036854775808) ∷ []) (11 becomes blocks 3 ∷ [])
    -- 3: by the power: 1,025 lines, and block sizes, of large chunks
    ∷ refused 3 (lent (large_with (log 1025)) 262144 64) (lent (large_with (log 1024)) 262144 64)
    ∷ refused 3 (lent (large_with (blocks 20)) 262144 64) (lent (large_with (blocks 21)) 262144 64)
    ∷ refused 3 (lent (large_with (blocks 1)) 262144 64) (lent (large_with (blocks 2)) 262144 64)
    ∷ refused 3 (lent (large_with (blocks 257)) 262144 64) (lent (large_with (blocks 256)) 262144 64)
    -- 3: a word of chunk 0
    ∷ refuses 3 (8 becomes log 1 ∷ []) (8 becomes 0 ∷ [])
    ∷ refuses 3 (8 becomes blocks 2 ∷ []) (8 becomes 0 ∷ [])
    -- 3: a word past the count, the first and the last
    ∷ refused 3 (lent (changed (12 becomes blocks 2 ∷ [])) 16384 64) (lent (changed (1 becomes 5 ∷ 7 becomes minus 6 ∷ 12 becomes blocks 2 ∷ [])) 20480 64)
    ∷ refuses 3 (511 becomes blocks 2 ∷ []) (511 becomes 0 ∷ [])
    -- 4: operation 0 and 3, for a key that is new; the paper's first word 3
    ∷ refuses 4 (521 becomes first 0 0 1 0 ∷ 522 becomes 13 ∷ []) (521 becomes first 1 0 1 0 ∷ 522 becomes 13 ∷ [])
    ∷ refuses 4 (521 becomes first 3 0 1 0 ∷ 522 becomes 13 ∷ []) (521 becomes first 2 0 1 0 ∷ 522 becomes 13 ∷ [])
    ∷ refuses 4 (521 becomes 3 ∷ []) (521 becomes 0 ∷ [])
    -- 4: placement 2 and 3; any placement but 0 on a delete
    ∷ refuses 4 (521 becomes first 1 2 1 0 ∷ 522 becomes 13 ∷ []) (521 becomes first 1 0 1 0 ∷ 522 becomes 13 ∷ [])
    ∷ refuses 4 (521 becomes first 1 3 1 0 ∷ 522 becomes 13 ∷ []) (521 becomes first 1 0 1 0 ∷ 522 becomes 13 ∷ [])
    ∷ refuses 4 (521 becomes first 2 1 1 0 ∷ 522 becomes 13 ∷ []) (521 becomes first 2 0 1 0 ∷ 522 becomes 13 ∷ [])
    ∷ refuses 4 (521 becomes first 2 2 1 0 ∷ 522 becomes 13 ∷ []) (521 becomes first 2 0 1 0 ∷ 522 becomes 13 ∷ [])
    ∷ refuses 4 (521 becomes first 2 3 1 0 ∷ 522 becomes 13 ∷ []) (521 becomes first 2 0 1 0 ∷ 522 becomes 13 ∷ [])
    -- 4: version 0, of a put, a put in a block and a delete; the largest version is right
    ∷ refuses 4 (521 becomes first 1 0 0 0 ∷ 522 becomes 13 ∷ []) (521 becomes first 1 0 1 0 ∷ 522 becomes 13 ∷ [])
    ∷ refuses 4 (515 becomes first 1 1 0 32 ∷ []) (515 becomes first 1 1 1 32 ∷ [])
    ∷ refuses 4 (521 becomes first 2 0 0 0 ∷ 522 becomes 13 ∷ []) (521 becomes first 2 0 1 0 ∷ 522 becomes 13 ∷ [])
    ∷ refuses 4 (521 becomes first 1 0 0 1 ∷ 522 becomes 13 ∷ []) (521 becomes first 1 0 1048575 1 ∷ 522 becomes 13 ∷ [])
    -- 4: 257 bytes in the log, and the largest field
    ∷ refuses 4 (521 becomes first 1 0 1 257 ∷ 522 becomes 13 ∷ []) (521 becomes first 1 0 1 256 ∷ 522 becomes 13 ∷ [])
    ∷ refuses 4 (521 becomes first 1 0 1 1099511627775 ∷ 522 becomes 13 ∷ []) (521 becomes first 1 0 1 256 ∷ 522 becomes 13 ∷ [])
    -- 4: a delete with its lowest or its highest bit from 24
    ∷ refuses 4 (521 becomes first 2 0 1 1 ∷ 522 becomes 13 ∷ []) (521 becomes first 2 0 1 0 ∷ 522 becomes 13 ∷ [])
    ∷ refuses 4 (521 becomes first 2 0 1 549755813888 ∷ 522 becomes 13 ∷ []) (521 becomes first 2 0 1 0 ∷ 522 becomes 13 ∷ [])
    -- 4: the key is past the committed lines, of a put, a put in a block and a delete; the neighbour ends with the
    -- lines
    ∷ refuses 4 (559 becomes first 1 0 1 0 ∷ []) (558 becomes first 1 0 1 0 ∷ 559 becomes 13 ∷ [])
    ∷ refuses 4 (1216 becomes 257 ∷ 559 becomes first 1 1 1 38 ∷ []) (1216 becomes 257 ∷ 558 becomes first 1 1 1 38 ∷ 559 becomes 13 ∷ [])
    ∷ refuses 4 (559 becomes first 2 0 1 0 ∷ []) (558 becomes first 2 0 1 0 ∷ 559 becomes 13 ∷ [])
    -- 4: the value, or its last word, is past the committed lines; 256 bytes with five lines or with six
    ∷ refuses 4 (558 becomes first 1 0 1 5 ∷ 559 becomes 13 ∷ []) (557 becomes first 1 0 1 5 ∷ 558 becomes 13 ∷ [])
    ∷ refuses 4 (557 becomes first 1 0 1 9 ∷ 558 becomes 13 ∷ []) (556 becomes first 1 0 1 9 ∷ 557 becomes 13 ∷ [])
    ∷ refuses 4 (9 becomes log 5 ∷ 521 becomes first 1 0 1 256 ∷ 522 becomes 13 ∷ []) (9 becomes log 6 ∷ 521 becomes first 1 0 1 256 ∷ 522 becomes 13 ∷ [])
    -- 4: the fill after five bytes, after one and after seven; eight bytes have no fill
    ∷ refuses 4 (514 becomes 1099511627776 ∷ []) (514 becomes 1099511627775 ∷ [])
    ∷ refuses 4 (521 becomes first 1 0 1 1 ∷ 522 becomes 13 ∷ 523 becomes 256 ∷ []) (521 becomes first 1 0 1 1 ∷ 522 becomes 13 ∷ 523 becomes 255 ∷ [])
    ∷ refuses 4 (521 becomes first 1 0 1 7 ∷ 522 becomes 13 ∷ 523 becomes 72057594037927936 ∷ []) (521 becomes first 1 0 1 7 ∷ 522 becomes 13 ∷ 523 becomes 72057594037927935 ∷ [])
    ∷ refuses 4 (521 becomes first 1 0 1 7 ∷ 522 becomes 13 ∷ 523 becomes minus 1 ∷ []) (521 becomes first 1 0 1 8 ∷ 522 becomes 13 ∷ 523 becomes minus 1 ∷ [])
    -- 5: pointer 0; into chunk 0, a log chunk, a free chunk; past the image
    ∷ refuses 5 (515 becomes first 1 1 1 0 ∷ []) (515 becomes first 1 1 1 32 ∷ [])
    ∷ refuses 5 (515 becomes first 1 1 1 2 ∷ []) (515 becomes first 1 1 1 32 ∷ [])
    ∷ refuses 5 (515 becomes first 1 1 1 16 ∷ []) (515 becomes first 1 1 1 32 ∷ [])
    ∷ refuses 5 (515 becomes first 1 1 1 48 ∷ 1536 becomes 257 ∷ []) (11 becomes blocks 3 ∷ 515 becomes first 1 1 1 48 ∷ 1536 becomes 257 ∷ [])
    ∷ refuses 5 (515 becomes first 1 1 1 64 ∷ []) (515 becomes first 1 1 1 32 ∷ [])
    ∷ refuses 5 (515 becomes first 1 1 1 1099511627775 ∷ []) (515 becomes first 1 1 1 32 ∷ [])
    -- 5: no start of a block: inside one; behind the last of five blocks of three units, and of three blocks of five
    ∷ refuses 5 (515 becomes first 1 1 1 37 ∷ 1184 becomes 257 ∷ []) (515 becomes first 1 1 1 38 ∷ 1216 becomes 257 ∷ [])
    ∷ refuses 5 (515 becomes first 1 1 1 39 ∷ 1248 becomes 257 ∷ []) (515 becomes first 1 1 1 38 ∷ 1216 becomes 257 ∷ [])
    ∷ refuses 5 (515 becomes first 1 1 1 47 ∷ 1504 becomes 257 ∷ []) (515 becomes first 1 1 1 44 ∷ 1408 becomes 257 ∷ [])
    ∷ refuses 5 (11 becomes blocks 5 ∷ 515 becomes first 1 1 1 63 ∷ 2016 becomes 257 ∷ []) (11 becomes blocks 5 ∷ 515 becomes first 1 1 1 58 ∷ 1856 becomes 257 ∷ [])
    -- 5: the length: 256 bytes, none; more than three units hold, more than a chunk, more than anything
    ∷ refuses 5 (1024 becomes 256 ∷ []) (1024 becomes 257 ∷ [])
    ∷ refuses 5 (1024 becomes 0 ∷ []) (1024 becomes 257 ∷ [])
    ∷ refuses 5 (1024 becomes 761 ∷ []) (1024 becomes 760 ∷ [])
    ∷ refuses 5 (11 becomes blocks 16 ∷ 515 becomes first 1 1 1 48 ∷ 1536 becomes 4089 ∷ []) (11 becomes blocks 16 ∷ 515 becomes first 1 1 1 48 ∷ 1536 becomes 4088 ∷ [])
    ∷ refuses 5 (1024 becomes minus 1 ∷ []) (1024 becomes 257 ∷ [])
    -- 5: the fill after 257 bytes and after 263; 264 bytes have none
    ∷ refuses 5 (1057 becomes 256 ∷ []) (1057 becomes 255 ∷ [])
    ∷ refuses 5 (1024 becomes 263 ∷ 1057 becomes 72057594037927936 ∷ []) (1024 becomes 263 ∷ 1057 becomes 72057594037927935 ∷ [])
    ∷ refuses 5 (1024 becomes 263 ∷ 1057 becomes minus 1 ∷ []) (1024 becomes 264 ∷ 1057 becomes minus 1 ∷ [])
    -- 5: of a put that is not top nothing is asked: a later put, or a later delete, of its key
    ∷ refuses 5 (515 becomes first 1 1 1 0 ∷ 521 becomes first 1 0 2 0 ∷ 522 becomes 13 ∷ []) (515 becomes first 1 1 1 0 ∷ 521 becomes first 1 0 2 0 ∷ 522 becomes 9 ∷ [])
    ∷ refuses 5 (515 becomes first 1 1 1 0 ∷ 521 becomes first 2 0 2 0 ∷ 522 becomes 13 ∷ []) (515 becomes first 1 1 1 0 ∷ 521 becomes first 2 0 2 0 ∷ 522 becomes 9 ∷ [])
    -- 5: of a second top put all is asked
    ∷ refuses 5 (521 becomes first 1 1 1 0 ∷ 522 becomes 9 ∷ []) (521 becomes first 1 1 1 32 ∷ 522 becomes 9 ∷ [])
    -- 6: put and delete of 7, both version 2, in either order
    ∷ refuses 6 (521 becomes first 1 0 2 0 ∷ 522 becomes 7 ∷ 523 becomes first 2 0 2 0 ∷ 524 becomes 7 ∷ []) (521 becomes first 1 0 2 0 ∷ 522 becomes 7 ∷ 523 becomes first 2 0 3 0 ∷ 524 becomes 7 ∷ [])
    ∷ refuses 6 (521 becomes first 2 0 2 0 ∷ 522 becomes 7 ∷ 523 becomes first 1 0 2 0 ∷ 524 becomes 7 ∷ []) (521 becomes first 2 0 2 0 ∷ 522 becomes 7 ∷ 523 becomes first 2 0 2 0 ∷ 524 becomes 7 ∷ [])
    -- 6: two puts in the log, of unequal bytes; of the same bytes and one more, 0; the third of three
    ∷ refuses 6 (521 becomes first 1 0 1 5 ∷ 522 becomes 7 ∷ 523 becomes 478560413033 ∷ []) (521 becomes first 1 0 1 5 ∷ 522 becomes 7 ∷ 523 becomes 478560413032 ∷ [])
    ∷ refuses 6 (521 becomes first 1 0 1 6 ∷ 522 becomes 7 ∷ 523 becomes 478560413032 ∷ []) (521 becomes first 1 0 1 5 ∷ 522 becomes 7 ∷ 523 becomes 478560413032 ∷ [])
    ∷ refuses 6 (521 becomes first 1 0 1 5 ∷ 522 becomes 7 ∷ 523 becomes 478560413032 ∷ 524 becomes first 1 0 1 0 ∷ 525 becomes 7 ∷ []) (521 becomes first 1 0 1 5 ∷ 522 becomes 7 ∷ 523 becomes 478560413032 ∷ 524 becomes first 1 0 1 0 ∷ 525 becomes 13 ∷ [])
    -- 6: below the highest version nothing is asked
    ∷ refuses 6 (521 becomes first 1 0 1 0 ∷ 522 becomes 7 ∷ []) (521 becomes first 1 0 1 0 ∷ 522 becomes 7 ∷ 523 becomes first 2 0 2 0 ∷ 524 becomes 7 ∷ [])
    -- 6: a put in a block and one in the log; the neighbour is a second put in the same block
    ∷ refuses 6 (521 becomes first 1 0 1 256 ∷ 522 becomes 9 ∷ []) (521 becomes first 1 1 1 32 ∷ 522 becomes 9 ∷ [])
    -- 6: two puts in two blocks, of equal values and of unequal ones; the neighbours point to one block, or a third
    -- entry is above them
    ∷ refuses 6 (520 becomes 9 ∷ []) (519 becomes first 1 1 1 32 ∷ 520 becomes 9 ∷ [])
    ∷ refuses 6 (520 becomes 9 ∷ []) (515 becomes first 1 1 1 35 ∷ 520 becomes 9 ∷ [])
    ∷ refuses 6 (520 becomes 9 ∷ 1121 becomes 2 ∷ []) (519 becomes first 1 1 1 32 ∷ 520 becomes 9 ∷ 1121 becomes 2 ∷ [])
    ∷ refuses 6 (520 becomes 9 ∷ []) (520 becomes 9 ∷ 521 becomes first 2 0 2 0 ∷ 522 becomes 9 ∷ [])
    -- 6: the third of three points elsewhere
    ∷ refuses 6 (519 becomes first 1 1 1 32 ∷ 520 becomes 9 ∷ 521 becomes first 1 1 1 35 ∷ 522 becomes 9 ∷ []) (519 becomes first 1 1 1 32 ∷ 520 becomes 9 ∷ 521 becomes first 1 1 1 32 ∷ 522 becomes 9 ∷ [])
    -- 6: two keys' top puts share a block; one key's two may, and a put that is not top may
    ∷ refuses 6 (519 becomes first 1 1 1 32 ∷ []) (519 becomes first 1 1 1 35 ∷ [])
    ∷ refuses 6 (519 becomes first 1 1 1 32 ∷ []) (519 becomes first 1 1 1 32 ∷ 520 becomes 9 ∷ [])
    ∷ refuses 6 (519 becomes first 1 1 1 32 ∷ 521 becomes first 1 0 2 0 ∷ 522 becomes 13 ∷ []) (519 becomes first 1 1 1 32 ∷ 521 becomes first 1 0 2 0 ∷ 522 becomes 11 ∷ [])
    -- 7: a table of three words and one key; of fifteen and four keys, one of them deleted
    ∷ refused 7 (lent (changed (515 becomes 0 ∷ 516 becomes 0 ∷ 517 becomes 0 ∷ 518 becomes 0 ∷ 519 becomes 0 ∷ 520 becomes 0 ∷ [])) 16384 3) (lent (changed (515 becomes 0 ∷ 516 becomes 0 ∷ 517 becomes 0 ∷ 518 becomes 0 ∷ 519 becomes 0 ∷ 520 becomes 0 ∷ [])) 16384 4)
    ∷ refused 7 (lent same 16384 15) (lent same 16384 16)
    -- 7: no word, and no key
    ∷ refused 7 (lent (changed (515 becomes 0 ∷ 516 becomes 0 ∷ 517 becomes 0 ∷ 518 becomes 0 ∷ 519 becomes 0 ∷ 520 becomes 0 ∷ [])) 16384 0) (lent (changed (9 becomes 0 ∷ [])) 16384 0)
    ∷ []

-- two faults in one image: the lower number is answered, wherever each stands
abbrev pairs : List Faults
pairs =
    -- the length, and the header
    faults 1 (lent same 16385 64) 2 (with (0 becomes 0 ∷ [])) (lent (changed (0 becomes 0 ∷ [])) 16385 64)
    -- the header, and a directory word
    ∷ faulty 2 (7 becomes 0 ∷ []) 3 (8 becomes 1 ∷ [])
    -- the last directory word, and the first entry
    ∷ faulty 3 (511 becomes 1 ∷ []) 4 (512 becomes 3 ∷ [])
    -- the last committed word, and a pointer before it
    ∷ faulty 4 (559 becomes 3 ∷ []) 5 (515 becomes first 1 1 1 0 ∷ [])
    -- a pointer, and top entries that disagree
    ∷ faulty 5 (519 becomes first 1 1 1 0 ∷ []) 6 (521 becomes first 1 0 1 0 ∷ 522 becomes 7 ∷ [])
    -- the second of two blocks, and top puts of one key that point to them
    ∷ faulty 5 (1120 becomes 256 ∷ []) 6 (520 becomes 9 ∷ [])
    -- a block, and top puts that share one
    ∷ faulty 5 (1024 becomes 256 ∷ []) 6 (521 becomes first 1 1 1 35 ∷ 522 becomes 13 ∷ [])
    -- a disagreement, and keys beyond the table; an entry, and keys beyond the table
    ∷ faults 6 (with (521 becomes first 1 0 1 0 ∷ 522 becomes 7 ∷ [])) 7 (lent same 16384 15) (lent (changed (521 becomes first 1 0 1 0 ∷ 522 becomes 7 ∷ [])) 16384 15)
    ∷ faults 4 (with (559 becomes 3 ∷ [])) 7 (lent same 16384 15) (lent (changed (559 becomes 3 ∷ [])) 16384 15)
    ∷ []

pub computed : T (both (all (case_holds image) cases) (all (faults_hold image) pairs))
unfolding base chunk_bytes chunk_words chunk_lines chunk_units chunks_in length_allowed unit_chunk unit_in header_tail header_words header_test role_of lines_of size_of size_for is_size directory_right first_of_word step_of block_test chosen tops capacity opening fields_test power_said power_bit power_field size_allowed any_allowed
computed = tt
