-- What each call finds in an image: the refusal, or the items, the task and the actions; the chunk to clean; the part
-- that holds a value.
-- Assumes nothing.
use Rattle.std.specs.Prelude.{Bool, true, false, List, [], ◌∷◌, ◌++◌, map, ℕ, zero, suc, ◌+◌, ◌-◌, ◌*◌, ◌/◌, eqb, leb, ltb, length, get_or, set}
use Rattle.std.proofs.Math.Option.{Option, none, some}
use Rattle.spec.specs.Basics.{pick, both, either, negate, filter, first, all, any, is_in, is_empty, up_from, distinct}
use Rattle.spec.specs.Words.{packed}
use Rattle.spec.specs.Places.{chunk_lines, chunk_units, first_unit, unit_chunk, unit_word, directory_word}
use Rattle.spec.specs.Medium.{Action}
use Rattle.spec.specs.Directory.{role_at, lines_of, size_of, is_log, is_free, free_chunks}
use Rattle.spec.specs.Log.{Entry, max_in_log, encode_all}
use Rattle.spec.specs.Blocks.{block_limit, block_size, pointed}
use Rattle.spec.specs.Contents.{highest, chosen, capacity, pointers, live_blocks, kept_in}
use Rattle.spec.specs.Actions.{lines_for, append_of, free_of, take_of, block_of}
use Rattle.spec.specs.Basics.{Given}
use Rattle.std.specs.declared.option.Option.TheVariants as G
use Rattle.spec.specs.declared.Refusal.{Refusal}
use Rattle.spec.specs.declared.Refusal.TheVariants as N
use Rattle.spec.specs.declared.Report.{Report}
use Rattle.spec.specs.declared.Report.TheVariants as R

-- A directory word as it was: its chunk and its value. Put back into words, of several the first one last.
-- R88
abbrev pub Olds : Type 0
Olds = List (ℕ × ℕ)

abbrev pub old_of : List ℕ → ℕ → ℕ × ℕ
old_of ws c = (c, get_or ws (directory_word c) 0)

-- R88
abbrev pub put_back : Olds → List ℕ → List ℕ
put_back [] ws = ws
put_back ((c, w) ∷ olds) ws = set (put_back olds ws) (directory_word c) w

-- what was begun on an open register: a commit and a cleaning have the directory words that they store to, as they were
-- before, and a cleaning the number of entries that it copies
pub data Task : Type 0 where
  Staging : Task
  Committing : Olds → Task
  -- R59
  Cleaning : ℕ → Olds → Task

-- A call that writes finds a refusal, or what it does: the staged items then, the task, the actions.
pub data Plan : Type 0 where
  Refuse : Refusal → Plan
  Begin : List Entry → Task → List Action → Plan

-- a plan that is turned down unless a test holds
-- R39
abbrev pub need : Bool → Refusal → Plan → Plan
need true n q = q
need false n q = Refuse n

-- STAGING
-- R45
abbrev pub max_items : ℕ
max_items = 16

-- R45
abbrev pub max_batch_bytes : ℕ
max_batch_bytes = 4096

-- the largest version of a delete, and of a put: the last is kept for a delete
-- R46
abbrev pub max_version : ℕ
max_version = 1048575

-- R46
abbrev pub max_put_version : ℕ
max_put_version = max_version - 1

abbrev pub is_put : Option Entry → Bool
is_put none = false
is_put (some e) = eqb e.op 1

-- versions count on from the key's highest, staged ones included; so the top entry of both is the last staged of the
-- key
-- R46
abbrev pub next_version : ℕ → List Entry → List Entry → ℕ
next_version k es items = suc (highest k (es ++ items))

-- 17: a staging may name a version, which must be the key's highest, staged items counted; 0 is that of a key neither
-- known nor staged
-- R86
abbrev pub is_named : Given → ℕ → Bool
is_named G.None v = true
is_named (G.Some n) v = eqb n v

-- R86
abbrev pub fits_version : Given → ℕ → List Entry → List Entry → Bool
fits_version named k es items = is_named named (highest k (es ++ items))

-- R47
abbrev pub present : ℕ → List Entry → List Entry → Bool
present k es items = is_put (chosen k (es ++ items))

-- 10: one more item of so many words
-- R45
abbrev pub fits_batch : List Entry → ℕ → Bool
fits_batch items words = both (ltb (length items) max_items) (leb (8 * (length (encode_all items) + words)) max_batch_bytes)

-- 7: the known, staged and new keys
-- R48
abbrev pub fits_keys : ℕ → List Entry → List Entry → ℕ → Bool
fits_keys table es items k = leb (length (distinct (k ∷ (map (λ (e : Entry). e.key) items ++ map (λ (e : Entry). e.key) es)))) (capacity table)

abbrev pub entry : ℕ → ℕ → ℕ → ℕ → ℕ → List ℕ → Entry
entry op placement version field key value = record { op = op; placement = placement; version = version; field = field; key = key; value = value; at = 0 }

-- the blocks of size s of an image of n chunks, by chunk, then block
-- R15
abbrev pub blocks_of : ℕ → ℕ → ℕ → ℕ → List ℕ
blocks_of p s u zero = []
blocks_of p s u (suc j) = u ∷ blocks_of p s (u + s) j

-- R50
abbrev pub blocks_from : ℕ → List ℕ → ℕ → List ℕ → List ℕ
blocks_from p ws s [] = []
blocks_from p ws s (c ∷ cs) = pick (eqb (size_of p ws c) s) (blocks_of p s (first_unit p c) (chunk_units p / s)) [] ++ blocks_from p ws s cs

-- where a large value goes: a block of a data chunk, a free chunk, or nowhere
pub data Slot : Type 0 where
  InData : ℕ → Slot
  InFree : ℕ → Slot
  Nowhere : Slot

-- the first free chunk, if at least so many are free
-- R50
abbrev pub free_chunk : ℕ → ℕ → List ℕ → ℕ → Option ℕ
free_chunk p n ws needed = pick (leb needed (length (free_chunks p n ws))) (first (free_chunks p n ws)) none

abbrev pub or_free : Option ℕ → Option ℕ → Slot
or_free (some u) c = InData u
or_free none (some c) = InFree c
or_free none none = Nowhere

-- the first data chunk of the size with a block neither live nor staged (lowest block), else the first free chunk if at
-- least three are free
-- R50, R55
unfoldable pub slot_for : ℕ → ℕ → List ℕ → List Entry → List Entry → ℕ → Slot
slot_for p n ws es items s =
    or_free (first (filter (λ u. negate (is_in u (live_blocks es ++ pointers items))) (blocks_from p ws s (up_from 1 (n - 1))))) (free_chunk p n ws 3)

-- R50
abbrev pub stage_large : ℕ → List ℕ → List Entry → ℕ → ℕ → List ℕ → Slot → Plan
stage_large p ws items version k bytes (InData u) =
    Begin (items ++ (entry 1 1 version u k [] ∷ [])) Staging (block_of u (length bytes ∷ packed bytes))
stage_large p ws items version k bytes (InFree c) =
    Begin (items ++ (entry 1 1 version (first_unit p c) k [] ∷ [])) Staging
    (take_of c (get_or ws (directory_word c) 0) (block_size p (length bytes)) ++ block_of (first_unit p c) (length bytes ∷ packed bytes))
stage_large p ws items version k bytes Nowhere = Refuse N.NoSpace

-- R51
abbrev pub stage_put : ℕ → ℕ → List ℕ → List Entry → List Entry → ℕ → ℕ → List ℕ → Plan
stage_put p n ws es items version k bytes =
    pick (leb (length bytes) max_in_log)
    (Begin (items ++ (entry 1 0 version (length bytes) k (packed bytes) ∷ [])) Staging [])
    (stage_large p ws items version k bytes (slot_for p n ws es items (block_size p (length bytes))))

-- the words of the new item: first word and key, and a value in the log
abbrev pub put_words : ℕ → ℕ
put_words bytes = 2 + pick (leb bytes max_in_log) ((bytes + 7) / 8) 0

-- 9, 17, 12, 10, 7, 13 of a put
-- R39, R49
unfoldable pub plan_put : ℕ → ℕ → List ℕ → ℕ → List Entry → List Entry → Given → ℕ → List ℕ → Plan
plan_put p n ws table es items named k bytes =
    need (leb (length bytes) (block_limit p)) N.TooLong
    (need (fits_version named k es items) N.OtherVersion
    (need (leb (next_version k es items) max_put_version) N.VersionSpent
    (need (fits_batch items (put_words (length bytes))) N.BatchFull
    (need (fits_keys table es items k) N.TableFull
    (stage_put p n ws es items (next_version k es items) k bytes)))))

-- 11, 17, 12, 10, 7 of a delete
-- R39
unfoldable pub plan_delete : ℕ → List Entry → List Entry → Given → ℕ → Plan
plan_delete table es items named k =
    need (present k es items) N.KeyAbsent
    (need (fits_version named k es items) N.OtherVersion
    (need (leb (next_version k es items) max_version) N.VersionSpent
    (need (fits_batch items 2) N.BatchFull
    (need (fits_keys table es items k) N.TableFull
    (Begin (items ++ (entry 2 0 (next_version k es items) 0 k [] ∷ [])) Staging [])))))

-- COMMIT: the first log chunk, other than chunk x, with space for b lines behind its committed lines, else the first
-- free chunk if at least so many are free
abbrev pub has_space : ℕ → List ℕ → ℕ → ℕ → ℕ → Bool
has_space p ws b x c = both (is_log (role_at p ws c)) (both (negate (eqb c x)) (leb (lines_of p ws c + b) (chunk_lines p)))

abbrev pub or_else : Option ℕ → Option ℕ → Option ℕ
or_else (some c) d = some c
or_else none d = d

-- R52, R57
unfoldable pub log_place : ℕ → ℕ → List ℕ → ℕ → ℕ → ℕ → Option ℕ
log_place p n ws b x needed = or_else (first (filter (has_space p ws b x) (up_from 1 (n - 1)))) (free_chunk p n ws needed)

-- the words appended to the chunk found
abbrev pub append_to : ℕ → List ℕ → List ℕ → ℕ → List Action
append_to p ws words c = append_of p c (get_or ws (directory_word c) 0) (lines_of p ws c) words

abbrev pub is_delete : Entry → Bool
is_delete e = eqb e.op 2

-- three free chunks, or two if all items are deletes
-- R52
abbrev pub free_needed : List Entry → ℕ
free_needed items = pick (all is_delete items) 2 3

abbrev pub commit_at : ℕ → List ℕ → List Entry → Option ℕ → Plan
commit_at p ws items none = Refuse N.NoSpace
commit_at p ws items (some c) = Begin items (Committing (old_of ws c ∷ [])) (append_to p ws (encode_all items) c)

-- 14, 13
-- R39, R52
unfoldable pub plan_commit : ℕ → ℕ → List ℕ → List Entry → Plan
plan_commit p n ws items =
    need (negate (is_empty items)) N.NothingStaged
    (commit_at p ws items (log_place p n ws (lines_for (length (encode_all items))) 0 (free_needed items)))

-- CLEANING
-- R61
abbrev pub in_use : ℕ → ℕ → List ℕ → ℕ → Bool
in_use p n ws c = both (leb 1 c) (both (ltb c n) (negate (is_free (role_at p ws c))))

-- chunk c has a live block
-- R60
abbrev pub has_live : ℕ → List Entry → ℕ → Bool
has_live p es c = any (λ u. eqb (unit_chunk p u) c) (live_blocks es)

abbrev pub free : ℕ → List ℕ → List Action
free c ws = free_of c (get_or ws (directory_word c) 0)

-- R57
abbrev pub clean_to : ℕ → List ℕ → ℕ → List Entry → Option ℕ → Plan
clean_to p ws c kept none = Refuse N.NoSpace
clean_to p ws c kept (some d) = Begin [] (Cleaning (length kept) (old_of ws d ∷ old_of ws c ∷ [])) (append_to p ws (encode_all kept) d ++ free c ws)

-- none copied, none written
-- R57
abbrev pub clean_log : ℕ → ℕ → List ℕ → ℕ → List Entry → Plan
clean_log p n ws c kept =
    pick (is_empty kept) (Begin [] (Cleaning 0 (old_of ws c ∷ [])) (free c ws))
    (clean_to p ws c kept (log_place p n ws (lines_for (length (encode_all kept))) c 1))

-- R60
abbrev pub clean_data : ℕ → List ℕ → List Entry → ℕ → Plan
clean_data p ws es c = need (negate (has_live p es c)) N.NotCleanable (Begin [] (Cleaning 0 (old_of ws c ∷ [])) (free c ws))

-- 15, 16, 13
-- R39, R61
unfoldable pub plan_clean : ℕ → ℕ → List ℕ → List Entry → List Entry → ℕ → Plan
plan_clean p n ws es items c =
    need (is_empty items) N.BatchStaged
    (need (in_use p n ws c) N.NotCleanable
    (pick (is_log (role_at p ws c)) (clean_log p n ws c (kept_in p c es)) (clean_data p ws es c)))

-- CHOOSING: of log chunks whose kept entries fill fewer lines than are committed, the one with the fewest bytes to
-- copy; of equals the one with the most committed lines, and of those the highest number
abbrev pub copy_words : ℕ → List Entry → ℕ → ℕ
copy_words p es c = length (encode_all (kept_in p c es))

-- R64
abbrev pub worth_cleaning : ℕ → List ℕ → List Entry → ℕ → Bool
worth_cleaning p ws es c = both (is_log (role_at p ws c)) (ltb (lines_for (copy_words p es c)) (lines_of p ws c))

-- chunk c, which comes later, is taken before chunk d
-- R64
abbrev pub is_better : ℕ → List ℕ → List Entry → ℕ → ℕ → Bool
is_better p ws es c d =
    either (ltb (copy_words p es c) (copy_words p es d)) (both (eqb (copy_words p es c) (copy_words p es d)) (leb (lines_of p ws d) (lines_of p ws c)))

abbrev pub better : ℕ → List ℕ → List Entry → Option ℕ → ℕ → Option ℕ
better p ws es none c = some c
better p ws es (some d) c = pick (is_better p ws es c d) (some c) (some d)

abbrev pub best : ℕ → List ℕ → List Entry → Option ℕ → List ℕ → Option ℕ
best p ws es d [] = d
best p ws es d (c ∷ cs) = best p ws es (better p ws es d c) cs

-- R64
unfoldable pub chosen_chunk : ℕ → ℕ → List ℕ → List Entry → Option ℕ
chosen_chunk p n ws es = best p ws es none (filter (worth_cleaning p ws es) (up_from 1 (n - 1)))

-- LOOK-UP: the part of the image that holds the value of the chosen top entry, and that entry's version
-- R65
abbrev pub part_of : List ℕ → Entry → Report
part_of ws e = pick (pointed e) (R.Part (8 * (unit_word e.field + 1)) (get_or ws (unit_word e.field) 0) e.version) (R.Part (8 * (e.at + 2)) e.field e.version)

abbrev pub part_or : List ℕ → Option Entry → Report
part_or ws none = R.Refused N.KeyAbsent
part_or ws (some e) = pick (eqb e.op 1) (part_of ws e) (R.Refused N.KeyAbsent)

-- R65
unfoldable pub look_up : List ℕ → List Entry → ℕ → Report
look_up ws es k = part_or ws (chosen k es)

-- THE WORDS THAT LOOK-UP READS while a call is unfinished with these actions still to come. Until its last action, the
-- last fence, is reported: those of the register before the call, which are the words with the directory words put back
-- as they were. From then on those that stand. A staging stores nothing that a committed entry needs.
abbrev pub olds_of : Task → Olds
olds_of Staging = []
olds_of (Committing olds) = olds
olds_of (Cleaning n olds) = olds

-- R54, R88
abbrev pub read_by : Task → List Action → List ℕ → List ℕ
read_by task [] ws = ws
read_by task (a ∷ rest) ws = put_back (olds_of task) ws

-- What a plan answers, and the state it leaves.
abbrev pub planned : Plan → Report
planned (Refuse n) = R.Refused n
planned (Begin items task acts) = R.Begun (length acts)

-- R64
abbrev pub chosen_or : Option ℕ → Report
chosen_or none = R.Refused N.NotCleanable
chosen_or (some c) = R.Chosen c
