-- The worked cases that are to be proved, together: each computed value beside the value in the rules, one proof for
-- all.
-- Assumes nothing.
use mathlib.Core.List.{List, [], ◌∷◌}
use Prim.Native.Nat.{ℕ, zero, suc, ◌*◌}
use lib.Dec.{T}
use lib.ListN.{length, replicate}
use Rattle.spec.specs.Basics.{pick}
use Rattle.spec.specs.Places.{base_power, large_power, chunk_lines, chunk_units, first_unit}
use Rattle.spec.specs.Medium.{Action, Store, Flush, Fence}
use Rattle.spec.specs.Header.{header_map, header_tail, header_words, header_test, header_right, fields_test, power_said, power_bit, power_field}
use Rattle.spec.specs.Directory.{log_word, data_word, role_of, size_in, size_for, is_size, size_of}
use Rattle.spec.specs.Log.{Entry, head_of, encode_all, first_of_word}
use Rattle.spec.specs.Blocks.{block_limit, units_for, block_size}
use Rattle.spec.specs.Contents.{capacity, tops, chosen}
use Rattle.spec.specs.Actions.{blank_of, block_of}
use Rattle.spec.specs.Reports.{number}
use Rattle.spec.specs.Plans.{entry, Plan, Refuse, Begin, plan_put, plan_delete, slot_for}
use Rattle.std.specs.declared.option.Option.TheVariants as G
use Rattle.spec.specs.declared.Role.{Role}
use Rattle.spec.specs.declared.Role.TheVariants as D
use Rattle.spec.specs.declared.FirstWord.{FirstWord}
use Rattle.spec.specs.declared.FirstWord.TheVariants as F
use Rattle.examples.specs.Shown.{Shown, Words, Number, Refused, Accepted, InLog, Units, Row, ◌is◌, all_hold}

-- Staging in an empty register of 16 chunks, of which words 0 to 511 are read, with a key table of 256 words.
abbrev empty : List ℕ
empty = header_map base_power G.None G.None ∷ blank_of (header_tail base_power 16 G.None G.None)

abbrev put : List Entry → ℕ → ℕ → Plan
put items key bytes = plan_put base_power 16 empty 256 [] items G.None key (replicate bytes 94)

abbrev delete : List Entry → ℕ → Plan
delete items key = plan_delete 256 [] items G.None key

abbrev fits : Plan → Shown
fits (Refuse n) = Refused (number n)
fits (Begin items task actions) = Accepted

-- where a value goes: no action, or the data chunk's directory word stored first
abbrev place : List Action → Shown
place [] = InLog
place (Store w v ∷ rest) = Units (size_in (role_of base_power v))
place (Flush l ∷ rest) = Words []
place (Fence ∷ rest) = Words []

abbrev goes : Plan → Shown
goes (Refuse n) = Refused (number n)
goes (Begin items task actions) = place actions

-- puts of 256 bytes under the keys n, n - 1 and so on to 1
abbrev staged_by : Plan → List Entry
staged_by (Refuse n) = []
staged_by (Begin items task actions) = items

abbrev puts : ℕ → List Entry → List Entry
puts zero items = items
puts (suc n) items = puts n (staged_by (put items (suc n) 256))

-- what a word read back says: the role and its number, or the parts of an entry's first word
abbrev role : Role → Shown
role D.Free = Number 0
role (D.Log n) = Words (1 ∷ n ∷ [])
role (D.Data s) = Words (2 ∷ s ∷ [])
role D.Wrong = Refused 3

abbrev parts : FirstWord → Shown
parts F.Padding = Number 0
parts F.Wrong = Refused 4
parts (F.Entry op placement version field) = Words (op ∷ placement ∷ version ∷ field ∷ [])

abbrev rows : List Row
rows =
    -- header, 16 chunks, bit map 1
    Words (header_words base_power 16 G.None G.None) is Words (1 ∷ 16 ∷ 0 ∷ 0 ∷ 0 ∷ 0 ∷ 0 ∷ 18446744073709551599 ∷ [])
    ∷ Words (header_words large_power 16 (G.Some 5) G.None) is Words (11 ∷ 16 ∷ 5 ∷ 16 ∷ 0 ∷ 0 ∷ 0 ∷ 18446744073709551568 ∷ [])
    ∷ pick (header_right 16 (header_words base_power 16 G.None G.None)) Accepted (Refused 2) is Accepted
    -- log, 2 lines
    ∷ Number (log_word 0 2) is Number 513
    ∷ role (role_of base_power 513) is Words (1 ∷ 2 ∷ [])
    -- data, 3 units
    ∷ Number (data_word 0 3) is Number 770
    ∷ role (role_of base_power 770) is Words (2 ∷ 3 ∷ [])
    -- put, version 1, 5 bytes
    ∷ Number (head_of (entry 1 0 1 5 7 (0 ∷ []))) is Number 83886097
    ∷ parts (first_of_word 83886097) is Words (1 ∷ 0 ∷ 1 ∷ 5 ∷ [])
    -- empty put, version 1
    ∷ Number (head_of (entry 1 0 1 0 7 [])) is Number 17
    ∷ parts (first_of_word 17) is Words (1 ∷ 0 ∷ 1 ∷ 0 ∷ [])
    -- delete, version 2
    ∷ Number (head_of (entry 2 0 2 0 7 [])) is Number 34
    ∷ parts (first_of_word 34) is Words (2 ∷ 0 ∷ 2 ∷ 0 ∷ [])
    -- put, version 1, block at chunk 3, unit 0
    ∷ Number (head_of (entry 1 1 1 (first_unit base_power 3) 7 [])) is Number 805306389
    ∷ parts (first_of_word 805306389) is Words (1 ∷ 1 ∷ 1 ∷ 48 ∷ [])
    -- sizes for 256, 257, 504, 505 bytes; 4,088 and 4,089
    ∷ goes (put [] 7 256) is InLog
    ∷ goes (put [] 7 257) is Units 2
    ∷ goes (put [] 7 504) is Units 2
    ∷ goes (put [] 7 505) is Units 3
    ∷ goes (put [] 7 4088) is Units 16
    ∷ goes (put [] 7 4089) is Refused 9
    -- fifteen 256-byte puts make 4,080 bytes: a delete still fits, another such put gets 10
    ∷ Number (8 * length (encode_all (puts 15 []))) is Number 4080
    ∷ fits (delete (puts 15 []) 3) is Accepted
    ∷ fits (put (puts 15 []) 16 256) is Refused 10
    ∷ []

pub stated : T (all_hold rows)
unfolding header_tail header_words header_test blank_of block_of chunk_lines chunk_units first_unit role_of size_for is_size size_of first_of_word block_limit units_for block_size capacity tops chosen plan_put plan_delete slot_for fields_test power_said power_bit power_field
stated = tt
