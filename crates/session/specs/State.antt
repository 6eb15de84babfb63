-- The state that a station record stands for, whatever numbers it holds: more staged words than there is room for are
-- read as that many, a chunk or a number of committed lines by its remainder.
-- Assumes nothing.
--
--   control.phase | state
--   0             | no register open
--   1             | a register open, at rest
--   2             | a staging, from its action number control.next on; from 16384 on it has none left
--   3             | a commit, from its action number control.next on
--   4, 5          | a formatting, begun with nothing open or on an open register, from action number control.next on
--   6             | a cleaning, from its action number control.next on; nothing is staged
--   others        | as 0
--
--   buffer        | by areas: the head of `buffer.Areas` says what each holds
--   setup         | in a staging with actions, chunk: the block's chunk; lines: the block's first unit there; fields: 0
--                 | if that is a data chunk already, else it is free, its directory word is old, and it is taken for
--                 | blocks of so many units
use Rattle.std.specs.Prelude.{true, false, List, [], ◌∷◌, ◌++◌, map, ℕ, zero, suc, ◌+◌, ◌/◌, ◌%◌, ◌^◌, min, eqb, get_or, drop}
use Rattle.spec.specs.Basics.{pick}
use Rattle.spec.specs.Places.{first_unit, unit_in, chunks_in}
use Rattle.spec.specs.Medium.{Action}
use Rattle.spec.specs.Log.{Entry, moved, parse}
use Rattle.spec.specs.Blocks.{block_limit}
use Rattle.spec.specs.Contents.{listed}
use Rattle.spec.specs.Actions.{take_of, block_of, append_of, free_of, format_of}
use Rattle.spec.specs.Plans.{Staging, Committing, Cleaning, Olds}
use Rattle.spec.specs.Machine.{State, Closed, Rest, Busy, Formatting}
use Rattle.places.specs.Sizes.{power_of, size_by}
use Rattle.buffer.specs.Areas.{batch_start, batch_room, second_start, second_room}
use Rattle.session.specs.declared.Control.{Control}
use Rattle.session.specs.declared.Setup.{Setup}
use Rattle.session.specs.declared.Source.{Source}
use Rattle.session.specs.declared.Session.{Session}
use Rattle.spec.specs.declared.Size.{Size}
use Rattle.spec.specs.Basics.{Given}
use Rattle.std.specs.declared.option.Option.TheVariants as G

-- n words of the buffer from word i, read one by one
abbrev pub buffer_part : List ℕ → ℕ → ℕ → List ℕ
buffer_part b i zero = []
buffer_part b i (suc n) = get_or b i 0 ∷ buffer_part b (suc i) n

-- the staged words, and the staged items that they say
unfoldable pub batch_words : Control → List ℕ → List ℕ
batch_words c b = buffer_part b batch_start (min c.words batch_room)

unfoldable pub batch_items : Control → List ℕ → List Entry
batch_items c b = map (moved 0) (listed (parse (batch_words c b) 0 0))

-- THE SIZE of the chunks, and its power
abbrev pub size_in : Setup → Size
size_in k = size_by k.power

abbrev pub power_in : Setup → ℕ
power_in k = power_of (size_in k)

-- the chunk that a commit writes to, and the lines committed there
abbrev pub chunk_in : Setup → ℕ
chunk_in k = k.chunk % 512

abbrev pub lines_in : Setup → ℕ
lines_in k = k.lines % 2048

-- the actions that put words behind those lines; a commit's, which puts the staged words there
abbrev pub append_actions : Setup → List ℕ → List Action
append_actions k words = append_of (power_in k) (chunk_in k) k.old (lines_in k) words

unfoldable pub commit_actions : Control → Setup → List ℕ → List Action
commit_actions c k b = append_actions k (batch_words c b)

-- a formatting's actions: what it was told, by the header's map
abbrev pub given_by : ℕ → ℕ → Given
given_by bit x = pick (eqb bit 1) (G.Some x) G.None

unfoldable pub format_actions : Setup → List Action
format_actions k = format_of (power_in k) (chunks_in (power_in k) k.image) (given_by (k.fields / 2 % 2) k.station) (given_by (k.fields / 4 % 2) k.centre)

-- A STAGING'S ACTIONS, which put a large value into its block: a longer value is read as one of the most bytes, a unit
-- by its remainder
abbrev pub most_bytes : Setup → ℕ
most_bytes k = block_limit (power_in k)

-- the words held: length word and value
abbrev pub held_count : Setup → List ℕ → ℕ
held_count k b = 1 + (min (get_or b second_start 0) (most_bytes k) + 7) / 8

unfoldable pub held_words : Setup → List ℕ → List ℕ
held_words k b = buffer_part b second_start (held_count k b)

-- the block's first unit
unfoldable pub unit_of : Setup → ℕ
unit_of k = first_unit (power_in k) (chunk_in k) + unit_in (power_in k) k.lines

-- the chunk is taken first, if it is free
abbrev pub taken_by : Setup → List Action
taken_by k = pick (eqb k.fields 0) [] (take_of (chunk_in k) k.old (k.fields % 2 ^ 56))

unfoldable pub block_actions : Setup → List ℕ → List Action
block_actions k b = taken_by k ++ block_of (unit_of k) (held_words k b)

-- a number behind them all: a staging from here on has no actions left
abbrev pub behind_all : ℕ
behind_all = 16384

-- A CLEANING: the chunk that is cleaned, its lines, and the words that are kept
abbrev pub source_in : Source → ℕ
source_in f = f.chunk % 512

abbrev pub source_lines : Source → ℕ
source_lines f = f.lines % 2048

-- no cleaning begun
abbrev pub no_source : Source
no_source = record { chunk = 0; old = 0; lines = 0; words = 0; entries = 0 }

unfoldable pub kept_words : ℕ → List ℕ → List ℕ
kept_words words b = buffer_part b second_start (min words second_room)

-- the copying, which is nothing where nothing is kept; then the freeing
unfoldable pub copy_actions : Setup → ℕ → List ℕ → List Action
copy_actions k words b = pick (eqb (min words second_room) 0) [] (append_actions k (kept_words words b))

unfoldable pub clean_actions : Setup → Source → List ℕ → List Action
clean_actions k f b = copy_actions k f.words b ++ free_of (source_in f) f.old

-- THE DIRECTORY WORDS that a commit and a cleaning store to, as they were at the begin
abbrev pub target_old : Setup → ℕ × ℕ
target_old k = (chunk_in k, k.old)

abbrev pub commit_olds : Setup → Olds
commit_olds k = target_old k ∷ []

abbrev pub clean_olds : Setup → Source → Olds
clean_olds k f = pick (eqb (min f.words second_room) 0) [] (target_old k ∷ []) ++ ((source_in f, f.old) ∷ [])

-- THE STATE
abbrev pub state_by : ℕ → Control → Setup → List ℕ → State
state_by phase c k b =
    pick (eqb phase 1) (Rest (power_in k) k.image k.table (batch_items c b))
    (pick (eqb phase 2) (Busy (power_in k) k.image k.table (batch_items c b) Staging (drop c.next (block_actions k b)))
    (pick (eqb phase 3) (Busy (power_in k) k.image k.table (batch_items c b) (Committing (commit_olds k)) (drop c.next (commit_actions c k b)))
    (pick (eqb phase 4) (Formatting false k.image k.table (drop c.next (format_actions k)))
    (pick (eqb phase 5) (Formatting true k.image k.table (drop c.next (format_actions k)))
    (pick (eqb phase 6) (Busy (power_in k) k.image k.table [] (Cleaning k.source.entries (clean_olds k k.source)) (drop c.next (clean_actions k k.source b)))
    Closed)))))

unfoldable pub state_at : Control → Setup → List ℕ → State
state_at c k b = state_by c.phase c k b

abbrev pub state_of : Session → State
state_of s = state_at s.control s.setup s.buffer
