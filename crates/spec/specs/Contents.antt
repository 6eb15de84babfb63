-- What an image means: for each key a value, or absent, by the highest version.
-- Assumes nothing.
use Rattle.std.specs.Prelude.{Bool, true, false, List, [], ◌∷◌, map, ℕ, ◌/◌, min, eqb}
use Rattle.std.proofs.Math.Option.{Option, none, some}
use Rattle.spec.specs.Basics.{pick, both, either, negate, larger, filter, first, is_some, same_list, distinct}
use Rattle.spec.specs.Words.{value_bytes}
use Rattle.spec.specs.Places.{word_chunk}
use Rattle.spec.specs.Log.{Entry, Parsed, Wrong, Entries, image_entries, encode}
use Rattle.spec.specs.Blocks.{pointed, block_bytes}

-- what a key has: nothing, or a value's bytes
pub data Held : Type 0 where
  Absent : Held
  Value : List ℕ → Held

abbrev pub same_held : Held → Held → Bool
same_held Absent Absent = true
same_held Absent (Value ys) = false
same_held (Value xs) Absent = false
same_held (Value xs) (Value ys) = same_list xs ys

-- the highest version of a key, 0 if it is not known
-- R18
abbrev pub highest : ℕ → List Entry → ℕ
highest k [] = 0
highest k (e ∷ es) = pick (eqb e.key k) (larger e.version (highest k es)) (highest k es)

-- the top entries of a key: those with its highest version; the chosen one: the first by chunk, then offset
abbrev pub is_top_of : ℕ → ℕ → Entry → Bool
is_top_of k h e = both (eqb e.key k) (eqb e.version h)

-- R18
unfoldable pub tops : ℕ → List Entry → List Entry
tops k es = filter (is_top_of k (highest k es)) es

-- R18
unfoldable pub chosen : ℕ → List Entry → Option Entry
chosen k es = first (tops k es)

abbrev pub is_top : List Entry → Entry → Bool
is_top es e = eqb e.version (highest e.key es)

-- a key is known if any entry of it is committed; the known keys, each once
-- R17
abbrev pub known : ℕ → List Entry → Bool
known k es = is_some (chosen k es)

-- R17
abbrev pub keys_of : List Entry → List ℕ
keys_of es = distinct (map (λ (e : Entry). e.key) es)

-- the keys that a key table of so many words holds: a quarter, rounded down, at most 65,536
-- R22
unfoldable pub capacity : ℕ → ℕ
capacity table = min (table / 4) 65536

-- what an entry in the log says, and what any entry says, of its key
abbrev pub in_log : Entry → Held
in_log e = pick (eqb e.op 1) (Value (value_bytes e.field e.value)) Absent

-- R19
abbrev pub meaning : List ℕ → Entry → Held
meaning ws e = pick (pointed e) (Value (block_bytes ws e.field)) (in_log e)

-- the register: what the chosen top entry says
abbrev pub held : (Entry → Held) → Option Entry → Held
held mean none = Absent
held mean (some e) = mean e

abbrev pub contents_by : (Entry → Held) → List Entry → ℕ → Held
contents_by mean es k = held mean (chosen k es)

-- the entries of an image whose entries are right
abbrev pub listed : Parsed → List Entry
listed Wrong = []
listed (Entries es) = es

abbrev pub entries_in : ℕ → ℕ → List ℕ → List Entry
entries_in p n ws = listed (image_entries p n ws)

-- R19, R77
unfoldable pub contents : ℕ → ℕ → List ℕ → ℕ → Held
contents p n ws k = contents_by (meaning ws) (entries_in p n ws) k

-- Top entries agree if they are equal in every word: first word, key, and a value in the log.
-- R20
abbrev pub agree : Entry → Entry → Bool
agree e f = same_list (encode e) (encode f)

-- the blocks, by their first unit, to which a top put points: the live ones
abbrev pub pointers : List Entry → List ℕ
pointers es = map (λ (e : Entry). e.field) (filter pointed es)

-- R21
abbrev pub live_blocks : List Entry → List ℕ
live_blocks es = pointers (filter (is_top es) es)

-- the entries of chunk c, and of the other chunks
abbrev pub in_chunk : ℕ → ℕ → Entry → Bool
in_chunk p c e = eqb (word_chunk p e.at) c

abbrev pub elsewhere : ℕ → ℕ → Entry → Bool
elsewhere p c e = negate (in_chunk p c e)

-- What cleaning log chunk c copies: its chosen puts, and its chosen deletes whose key has an entry in another chunk.
abbrev pub is_at : Option Entry → ℕ → Bool
is_at none at = false
is_at (some e) at = eqb e.at at

-- R56
abbrev pub is_kept : List Entry → List Entry → Entry → Bool
is_kept all rest e = both (is_at (chosen e.key all) e.at) (either (eqb e.op 1) (known e.key rest))

-- R56
unfoldable pub kept_in : ℕ → ℕ → List Entry → List Entry
kept_in p c es = filter (is_kept es (filter (elsewhere p c) es)) (filter (in_chunk p c) es)
