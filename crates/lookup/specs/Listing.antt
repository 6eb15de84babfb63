-- The present keys of a register in rising order, and what is listed of each; and the same by the key table's words.
-- Assumes nothing.
use Rattle.std.specs.Prelude.{Bool, true, false, List, [], ◌∷◌, ℕ, zero, suc, ◌+◌, ◌/◌, ◌%◌, eqb, ltb, get_or, Result, Ok, Err, is_ok}
use Rattle.std.proofs.Math.Option.{Option, none, some}
use Rattle.spec.specs.Basics.{pick, filter}
use Rattle.spec.specs.Places.{unit_word}
use Rattle.spec.specs.Log.{Entry}
use Rattle.spec.specs.Blocks.{pointed}
use Rattle.spec.specs.Contents.{Held, Absent, Value, keys_of, chosen, meaning, contents_by}
use Rattle.spec.specs.declared.Size.{Size}
use Rattle.spec.specs.declared.Refusal.{Refusal}
use Rattle.spec.specs.declared.Refusal.TheVariants as N
use Rattle.packing.specs.Packed.{unpack_of}
use Rattle.index.specs.Index.{key_at, info_at}
use Rattle.order.specs.Order.{in_order}
use Rattle.lookup.specs.declared.Listing.{Listing}

-- ## The register

-- a key is present if the register holds a value for it
abbrev pub is_value : Held → Bool
is_value Absent = false
is_value (Value bytes) = true

abbrev pub present : List ℕ → List Entry → ℕ → Bool
present ws es k = is_value (contents_by (meaning ws) es k)

-- THE PRESENT KEYS, each once, rising
unfoldable pub present_keys : List ℕ → List Entry → List ℕ
present_keys ws es = in_order (filter (present ws es) (keys_of es))

-- the bytes of a put's value: those of the part that look-up answers
abbrev pub value_length : List ℕ → Entry → ℕ
value_length ws e = pick (pointed e) (get_or ws (unit_word e.field) 0) e.field

-- WHAT IS LISTED of a key: its chosen top entry's version, the value's length, and whether that is in a block; or 11
abbrev pub Listed : Type 0
Listed = Result Listing Refusal

abbrev pub present_key : (version bytes : ℕ) → Bool → Listed
present_key version bytes block = Ok (record { version = version; length = bytes; block = block })

abbrev pub listed_or : List ℕ → Option Entry → Listed
listed_or ws none = Err N.KeyAbsent
listed_or ws (some e) = pick (eqb e.op 1) (present_key e.version (value_length ws e) (pointed e)) (Err N.KeyAbsent)

unfoldable pub listed_of : List ℕ → List Entry → ℕ → Listed
listed_of ws es k = listed_or ws (chosen k es)

-- ## By the words

-- by the first word of the entry at a place
abbrev pub by_entry : List ℕ → (version word : ℕ) → Listed
by_entry ws version word =
    pick (eqb (word % 16) 1) (present_key version (word / 16777216) false)
    (pick (eqb (word % 16) 5) (present_key version (get_or ws (unit_word (word / 16777216)) 0) true) (Err N.KeyAbsent))

-- by the word that the table holds of a key: extent, place and version
abbrev pub by_parts : List ℕ → (extent place version : ℕ) → Listed
by_parts ws extent place version = pick (ltb 0 extent) (present_key version (extent + 1) false) (by_entry ws version (get_or ws place 0))

unfoldable pub by_word : Size → List ℕ → ℕ → Listed
by_word size ws held = pick (eqb held 0) (Err N.KeyAbsent) (by_parts ws (unpack_of size held).extent (unpack_of size held).place (unpack_of size held).version)

abbrev pub is_present : Listed → Bool
is_present r = is_ok r

-- the present keys of the first slots of a table
abbrev pub slot_keys : Size → List ℕ → List ℕ → ℕ → List ℕ
slot_keys size ws table zero = []
slot_keys size ws table (suc s) = pick (is_present (by_word size ws (info_at table s))) (key_at table s ∷ slot_keys size ws table s) (slot_keys size ws table s)
