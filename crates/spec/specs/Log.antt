-- Entries: what a first word says, the entries in a log chunk's committed lines, the entries of an image, and their
-- words.
-- Assumes nothing.
--
--   first word | meaning
--   whole 0    | padding, 8 bytes long
--   bits 0–1   | operation: 1 put, 2 delete
--   bits 2–3   | placement: 0 in the log, 1 in a block
--   bits 4–23  | version, 1 to 1,048,575
--   bits 24 up | the value's length (0–256) or the pointer, in units from the image's start; 0 for a delete
--   second word: the key. A value in the log follows, zero-filled to 8 bytes.
use Rattle.std.specs.Prelude.{Bool, true, List, [], ◌∷◌, ◌++◌, ℕ, zero, suc, ◌+◌, ◌-◌, ◌*◌, ◌/◌, ◌%◌, ◌^◌, eqb, leb, ltb, length, get_or, take, drop}
use Rattle.std.proofs.Math.Seq.{slice}
use Rattle.spec.specs.Basics.{pick}
use Rattle.spec.specs.Places.{base}
use Rattle.spec.specs.Directory.{lines_of}
use Rattle.spec.specs.declared.FirstWord.{FirstWord}
use Rattle.spec.specs.declared.FirstWord.TheVariants as F
use Rattle.spec.specs.declared.LogStep.{LogStep}
use Rattle.spec.specs.declared.LogStep.TheVariants as S

-- the largest value that an entry in the log holds
abbrev pub max_in_log : ℕ
max_in_log = 256

-- a first word, from its parts
-- R9, R12
abbrev pub parts_of : ℕ → ℕ → ℕ → ℕ → FirstWord
parts_of op placement version field =
    pick (eqb version 0) F.Wrong
    (pick (eqb op 1)
    (pick (eqb placement 0) (pick (leb field max_in_log) (F.Entry 1 0 version field) F.Wrong)
    (pick (eqb placement 1) (F.Entry 1 1 version field) F.Wrong))
    (pick (eqb op 2)
    (pick (eqb placement 0) (pick (eqb field 0) (F.Entry 2 0 version 0) F.Wrong) F.Wrong)
    F.Wrong))

-- R8, R9
unfoldable pub first_of_word : ℕ → FirstWord
first_of_word w = pick (eqb w 0) F.Padding (parts_of (w % 4) (w / 4 % 4) (w / 16 % 1048576) (w / 16777216))

-- how many words a value in the log takes
abbrev pub words_for : ℕ → ℕ → ℕ
words_for placement field = pick (eqb placement 0) ((field + 7) / 8) 0

-- the last word of a value in the log is zero-filled; l is the words from the entry's first
-- R11
abbrev pub filled : ℕ → ℕ → List ℕ → Bool
filled placement field l = pick (eqb placement 0) (pick (eqb (field % 8) 0) true (ltb (get_or l (2 + field / 8) 0) (256 ^ (field % 8)))) true

-- the entry whose first word stands at the head of l, if it ends within l
-- R11, R13
abbrev pub with_first : FirstWord → List ℕ → LogStep
with_first F.Padding l = S.Padding
with_first F.Wrong l = S.Wrong
with_first (F.Entry op placement version field) l =
    pick (ltb (length l) (2 + words_for placement field)) S.Wrong
    (pick (filled placement field l) (S.Entry op placement version field (get_or l 1 0) (words_for placement field)) S.Wrong)

-- what stands at the head of the committed words l
unfoldable pub step_of : List ℕ → LogStep
step_of [] = S.End
step_of (w ∷ ws) = with_first (first_of_word w) (w ∷ ws)

-- an entry: `value` is the words of a value in the log, `at` the image's word at which the entry stands
pub record Entry : Type 0 where
  pub op : ℕ
  pub placement : ℕ
  pub version : ℕ
  pub field : ℕ
  pub key : ℕ
  pub value : List ℕ
  pub at : ℕ

pub data Parsed : Type 0 where
  Wrong : Parsed
  Entries : List Entry → Parsed

abbrev pub cons : Entry → Parsed → Parsed
cons e Wrong = Wrong
cons e (Entries es) = Entries (e ∷ es)

-- the entries found first, before those of the rest
abbrev pub prepend : List Entry → Parsed → Parsed
prepend [] q = q
prepend (e ∷ es) q = cons e (prepend es q)

-- go on behind what stands at the head of l, which is word `at`; `rest n` is what follows if n words behind the first
-- are skipped
-- R8
abbrev pub after : LogStep → List ℕ → ℕ → (ℕ → Parsed) → Parsed
after S.End l at rest = Entries []
after S.Padding l at rest = rest 0
after S.Wrong l at rest = Wrong
after (S.Entry op placement version field key words) l at rest =
    cons (record { op = op; placement = placement; version = version; field = field; key = key; value = take words (drop 2 l); at = at }) (rest (suc words))

-- the entries in words that start at word `at`, the first `skip` of them belonging to an entry that began before
-- R8
abbrev pub parse : List ℕ → ℕ → ℕ → Parsed
parse [] skip at = Entries []
parse (w ∷ ws) zero at = after (step_of (w ∷ ws)) (w ∷ ws) at (λ n. parse ws n (suc at))
parse (w ∷ ws) (suc n) at = parse ws n (suc at)

-- the entries of a chunk whose first word is word `from` of the image, with so many committed lines
abbrev pub entries_of : List ℕ → ℕ → ℕ → Parsed
entries_of ws from lines = parse (slice from (from + 8 * lines) ws) 0 from

-- the entries of chunk c, none if it is no log chunk
-- R13
abbrev pub chunk_entries : ℕ → List ℕ → ℕ → Parsed
chunk_entries p ws c = entries_of ws (base p c) (lines_of p ws c)

abbrev pub join : Parsed → Parsed → Parsed
join Wrong q = Wrong
join (Entries es) q = prepend es q

-- the entries of i chunks from chunk c, in order of chunk, then offset
abbrev pub all_from : ℕ → ℕ → ℕ → List ℕ → Parsed
all_from p zero c ws = Entries []
all_from p (suc i) c ws = join (chunk_entries p ws c) (all_from p i (suc c) ws)

-- the entries of an image of n chunks
abbrev pub image_entries : ℕ → ℕ → List ℕ → Parsed
image_entries p n ws = all_from p (n - 1) 1 ws

-- An entry's words: what a commit writes.
-- R9
abbrev pub head_of : Entry → ℕ
head_of e = e.op + 4 * e.placement + 16 * e.version + 16777216 * e.field

abbrev pub encode : Entry → List ℕ
encode e = head_of e ∷ e.key ∷ e.value

abbrev pub encode_all : List Entry → List ℕ
encode_all [] = []
encode_all (e ∷ es) = encode e ++ encode_all es

-- the entry at another place, and entries each at the place that it gets behind word `at`
abbrev pub moved : ℕ → Entry → Entry
moved at e = record { op = e.op; placement = e.placement; version = e.version; field = e.field; key = e.key; value = e.value; at = at }

abbrev pub placed : ℕ → List Entry → List Entry
placed at [] = []
placed at (e ∷ es) = moved at e ∷ placed (at + (2 + length e.value)) es
