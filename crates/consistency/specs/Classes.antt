-- Classes of keys, ranges of them, and marks by which a pass over the log tells the keys that it is asked for.
-- Assumes nothing.
use Rattle.std.specs.Prelude.{Bool, true, false, Option, Some, None, List, [], ℕ, ◌+◌, ◌*◌, ◌/◌, ◌%◌, leb, ltb, length, get_or}
use Rattle.std.specs.Borrow.{Bor}
use Rattle.spec.specs.Basics.{pick, both, filter}
use Rattle.spec.specs.Log.{Entry}

-- a class is below 2 ^ 32
unfoldable pub class_of : ℕ → ℕ
class_of key = (key % 0x1_0000_0000 * 0x9E37_79B1 % 0x1_0000_0000 + key / 0x1_0000_0000 * 0x85EB_CA77 % 0x1_0000_0000) % 0x1_0000_0000

-- the key's class is `low` or above, and below `high`
abbrev pub within : (low high key : ℕ) → Bool
within low high key = both (leb low (class_of key)) (ltb (class_of key) high)

-- the key's mark is set, or there is none for it: 16,384 marks are one for each 2 ^ 18 classes
abbrev pub mark_at : List ℕ → ℕ → Bool
mark_at marks at = pick (ltb at (length marks)) (ltb 0 (get_or marks at 0)) true

abbrev pub marked : List ℕ → ℕ → Bool
marked marks key = mark_at marks (class_of key / 0x4_0000)

-- a pass asks for a key of the range with a mark; for none where each key has a single top entry
abbrev pub asked : Bool → List ℕ → (low high key : ℕ) → Bool
asked single marks low high key = pick single false (both (within low high key) (marked marks key))

-- the entries of a range of classes
abbrev pub class_in : (low high : ℕ) → List Entry → List Entry
class_in low high es = filter (λ (e : Entry). within low high e.key) es

-- the key table that is known to hold the keys of a range, if one is, and whether one is
abbrev pub table_in : Option (Bor (List ℕ)) → List ℕ
table_in None = []
table_in (Some table) = table.now

abbrev pub holds_keys : Option (Bor (List ℕ)) → Bool
holds_keys None = false
holds_keys (Some table) = true
