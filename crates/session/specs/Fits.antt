-- Memory as the calls left it: what record and key table hold of the image's words. They are what a fresh opening of
-- the same image would build, and the staged items beside.
-- Assumes nothing.
use Rattle.std.specs.Prelude.{◌≡◌, true, false, List, [], ◌∷◌, ◌++◌, map, ℕ, ◌+◌, ◌*◌, ◌/◌, ◌%◌, ◌≤◌, ◌<◌, length, get_or}
use Rattle.spec.specs.Basics.{is_in, distinct}
use Rattle.spec.specs.Places.{base, chunk_lines, chunks_in}
use Rattle.spec.specs.Header.{header_power}
use Rattle.spec.specs.Medium.{Action}
use Rattle.spec.specs.Directory.{role_at, is_free}
use Rattle.spec.specs.Log.{Entry, encode_all, placed}
use Rattle.spec.specs.Blocks.{pointed}
use Rattle.spec.specs.Contents.{capacity, live_blocks}
use Rattle.spec.specs.Opening.{Accepted, fine, opening}
use Rattle.spec.specs.Actions.{lines_for}
use Rattle.spec.specs.Reports.{as_report, words_after, run_words}
use Rattle.spec.specs.Plans.{Task, Staging, Committing, Cleaning, Olds, olds_of, put_back, max_items, has_space}
use Rattle.spec.specs.Machine.{State, Closed, Rest, Busy, Formatting}
use Rattle.spec.specs.declared.Size.{Size}
use Rattle.session.specs.declared.Control.{Control}
use Rattle.session.specs.declared.Setup.{Setup}
use Rattle.session.specs.declared.Source.{Source}
use Rattle.session.specs.declared.Session.{Session}
use Rattle.theory_base.proofs.PutBack.{AreLow}
use Rattle.theory_log.specs.Batch.{AllRight}
use Rattle.theory_log.specs.Contents.{CountsOn, Mem, Top, Agree}
use Rattle.buffer.specs.Areas.{batch_room, second_room, filter_place, buffer_words}
use Rattle.buffer.specs.Bits.{has_bit}
use Rattle.volatile.specs.Known.{Indexed}
use Rattle.volatile.specs.Sums.{Summed}
use Rattle.session.specs.State.{size_in, power_in, batch_words, state_of}
use Rattle.session.specs.Filter.{AllMarked}
use Rattle.session.specs.Cleaned.{before, copies_of, after, Cleaned, Moves, Stand}

-- A value of the type `Session`: antt's list has no length, the array has so many words. Every record that is lent is
-- one: `buffer::buffer_length` shows it of any such array.
abbrev pub Proper : Session → Type 0
Proper s = length s.buffer ≡ buffer_words

abbrev pub key_list : List Entry → List ℕ
key_list es = map (λ (e : Entry). e.key) es

-- the blocks of staged items among the entries es, in an image of n chunks: each is right in the words, no top put
-- points to it, and no other item does
pub record ItemsFit (p n : ℕ) (ws : List ℕ) (es items : List Entry) : Type 0 where
  pub blocks : (e : Entry) → Mem e items → fine p n ws e ≡ true
  pub dead : (e f : Entry) → Mem e items → Top es f → pointed e ≡ true → pointed f ≡ true → e.field ≡ f.field → ⊥
  pub own : (e f : Entry) → Mem e items → Mem f items → pointed e ≡ true → pointed f ≡ true → e.field ≡ f.field → e ≡ f

-- the staged items among the entries es, in an image of n chunks with the words ws: the staged words are theirs,
-- versions count on, their blocks are right, the filter has their keys, and the staged keys that are not known are
-- counted
pub record BatchFits (c : Control) (buffer : List ℕ) (p n : ℕ) (ws : List ℕ) (es items : List Entry) : Type 0 where
  pub room : c.words ≤ batch_room
  pub written : batch_words c buffer ≡ encode_all items
  pub count : c.items ≡ length items
  pub few : length items ≤ max_items
  pub right : AllRight items
  pub counts : CountsOn es items
  pub fit : ItemsFit p n ws es items
  pub marked : AllMarked (get_or buffer filter_place 0) items
  pub keys : c.keys + c.fresh ≡ length (distinct (key_list items ++ key_list es))

-- the table, the block bits and the chunks' sums are those of the entries es
pub record Built (c : Control) (size : Size) (buffer table : List ℕ) (es : List Entry) : Type 0 where
  pub indexed : Indexed size table c.keys es
  pub blocks : (u : ℕ) → has_bit size buffer u ≡ is_in u (live_blocks es)
  pub sums : Summed size buffer es

-- no log chunk below `first` has space for `least` lines behind its committed ones, in an image of n chunks: the word
-- of a chunk past the directory would be a word of some block
abbrev pub NoneBelow : (p n : ℕ) (ws : List ℕ) (first least : ℕ) → Type 0
NoneBelow p n ws first least = (c : ℕ) → 1 ≤ c → c < first → c < n → has_space p ws least 0 c ≡ false

-- no log chunk behind chunk `at` has space for `least` lines
abbrev pub NoneAbove : (p n : ℕ) (ws : List ℕ) (at least : ℕ) → Type 0
NoneAbove p n ws at least = (c : ℕ) → at < c → c < n → has_space p ws least 0 c ≡ false

-- no chunk below chunk `at` is free
abbrev pub NoneFree : (p n : ℕ) (ws : List ℕ) (at : ℕ) → Type 0
NoneFree p n ws at = (c : ℕ) → 1 ≤ c → c < at → c < n → is_free (role_at p ws c) ≡ false

-- THE HINT where the next commit looks for space: a chunk below which no log chunk has space for `least` lines. Where
-- `first` is that chunk's number and 512 more, no log chunk behind it has either, and no chunk below it is free: then a
-- commit that it has no space for looks at no other log chunk, and at no chunk below it.
abbrev pub sole_mark : ℕ
sole_mark = 512

pub record Hint (p n : ℕ) (ws : List ℕ) (first least : ℕ) : Type 0 where
  pub below : NoneBelow p n ws (first % sole_mark) least
  pub above : sole_mark ≤ first → NoneAbove p n ws (first % sole_mark) least
  pub taken : sole_mark ≤ first → NoneFree p n ws (first % sole_mark)

-- an opening accepts the words, whose header says the chunk power p, with these entries
pub record Opens (p bytes : ℕ) (ws : List ℕ) (table : ℕ) (es : List Entry) : Type 0 where
  pub accepts : opening bytes ws table ≡ Accepted es
  pub power : header_power ws ≡ p

-- at rest
pub record RestFits (s : Session) (ws table : List ℕ) (items : List Entry) : Type 0 where
  pub entries : List Entry
  pub accepted : Opens (power_in s.setup) s.setup.image ws s.setup.table entries
  pub long : length ws ≡ s.setup.image / 8
  pub lent : length table ≡ s.setup.table
  pub built : Built s.control (size_in s.setup) s.buffer table entries
  pub batch : BatchFits s.control s.buffer (power_in s.setup) (chunks_in (power_in s.setup) s.setup.image) ws entries items
  pub table-room : s.control.keys + s.control.fresh ≤ capacity s.setup.table
  pub hint : Hint (power_in s.setup) (chunks_in (power_in s.setup) s.setup.image) ws s.setup.first s.setup.least

-- In a staging, looking forward: with the actions still to come done on these words, memory is at rest with the new
-- item among the staged ones. Entries, key table and bits are those before. Nothing is said of the block's words in
-- flight: no entry that is committed needs them.
abbrev pub StageFits : (s : Session) (ws table : List ℕ) (items : List Entry) (rest : List Action) → Type 0
StageFits s ws table items rest = RestFits s (run_words rest ws) table items

-- In a commit, looking forward: with the actions still to come done on these words, the image is accepted, and its
-- entries are those before (front and back) with the batch placed between. Until the last fence table and bits are
-- those of the entries before.
abbrev pub BuiltBy : List Action → Session → List ℕ → List Entry → List Entry → Type 0
BuiltBy [] s table before after = Built s.control (size_in s.setup) s.buffer table after
BuiltBy (a ∷ rest) s table before after = Built s.control (size_in s.setup) s.buffer table before

-- no two keys' top puts share a block
abbrev pub BlocksApart : List Entry → Type 0
BlocksApart es = (e f : Entry) → Top es e → Top es f → pointed e ≡ true → pointed f ≡ true → e.field ≡ f.field → e.key ≡ f.key

abbrev pub batch_place : Setup → ℕ
batch_place k = base (power_in k) k.chunk + 8 * k.lines

pub record CommitFits (s : Session) (ws table : List ℕ) (items : List Entry) (rest : List Action) : Type 0 where
  pub front : List Entry
  pub back : List Entry
  pub chunk : s.setup.chunk ≤ 503
  pub lines : s.setup.lines ≤ chunk_lines (power_in s.setup)
  pub accepted : Opens (power_in s.setup) s.setup.image (run_words rest ws) s.setup.table (front ++ (placed (batch_place s.setup) items ++ back))
  pub long : length ws ≡ s.setup.image / 8
  pub lent : length table ≡ s.setup.table
  pub batch : BatchFits s.control s.buffer (power_in s.setup) (chunks_in (power_in s.setup) s.setup.image) (run_words rest ws) (front ++ back) items
  pub agree : Agree (front ++ back)
  pub apart : BlocksApart (front ++ back)
  pub built : BuiltBy rest s table (front ++ back) (front ++ (placed (batch_place s.setup) items ++ back))
  pub table-room : s.control.keys + s.control.fresh ≤ capacity s.setup.table
  pub hint : Hint (power_in s.setup) (chunks_in (power_in s.setup) s.setup.image) (run_words rest ws) s.setup.first s.setup.least

-- In a cleaning, looking forward: with the actions still to come done on these words, the image is accepted, and its
-- entries are those before without the cleaned chunk's, with the copies of the kept ones among them. Until the last
-- fence table and bits are those of the entries before.
pub record CleanFits (c : Control) (k : Setup) (f : Source) (b ws table : List ℕ) (rest : List Action) : Type 0 where
  pub xs : List Entry
  pub mid : List Entry
  pub ys : List Entry
  pub as' : List Entry
  pub bs : List Entry
  pub chunk : k.chunk ≤ 503
  pub lines : k.lines ≤ chunk_lines (power_in k)
  pub source : f.chunk ≤ 503
  pub committed : f.lines ≤ chunk_lines (power_in k)
  pub room : f.words ≤ second_room
  pub moves : Moves (size_in k) f.chunk f.words xs mid ys as' bs (batch_place k)
  pub accepted : Opens (power_in k) k.image (run_words rest ws) k.table (after xs mid ys as' bs (batch_place k))
  pub long : length ws ≡ k.image / 8
  pub lent : length table ≡ k.table
  pub cleaned : Cleaned (size_in k) xs mid ys as' bs (batch_place k)
  pub here : Stand (run_words rest ws) (base (power_in k) f.chunk) (base (power_in k) f.chunk + 8 * f.lines) mid
  pub copied : Stand (run_words rest ws) (batch_place k) (batch_place k + 8 * lines_for f.words) (copies_of xs mid ys (batch_place k))
  pub built : BuiltBy rest (record { control = c; setup = k; buffer = b }) table (before xs mid ys) (after xs mid ys as' bs (batch_place k))
  pub hint : Hint (power_in k) (chunks_in (power_in k) k.image) (run_words rest ws) k.first k.least

-- WHAT LOOK-UP READS in an unfinished call, looking forward: before each action still to come the words with the old
-- directory words put back are accepted with the entries es; and until the last one is done table and bits are those of
-- es.
abbrev pub Shown : (p image table : ℕ) → Olds → List Entry → List Action → List ℕ → Type 0
Shown p image table olds es [] ws = Unit {0}
Shown p image table olds es (a ∷ rest) ws =
    Opens p image (put_back olds ws) table es × Shown p image table olds es rest (words_after (as_report a) ws)

pub record ReadFits (s : Session) (olds : Olds) (a : Action) (rest : List Action) (ws table : List ℕ) : Type 0 where
  pub entries : List Entry
  pub low : AreLow olds
  pub long : length ws ≡ s.setup.image / 8
  pub shown : Shown (power_in s.setup) s.setup.image s.setup.table olds entries (a ∷ rest) ws
  pub built : Built s.control (size_in s.setup) s.buffer table entries

abbrev pub Reads : Session → Olds → List Action → List ℕ → List ℕ → Type 0
Reads s olds [] ws table = Unit {0}
Reads s olds (a ∷ rest) ws table = ReadFits s olds a rest ws table

abbrev pub TaskFits : Task → Session → List Entry → List Action → List ℕ → List ℕ → Type 0
TaskFits Staging s items rest ws table = StageFits s ws table items rest
TaskFits (Committing olds) s items rest ws table = CommitFits s ws table items rest
TaskFits (Cleaning n olds) s items rest ws table = CleanFits s.control s.setup s.setup.source s.buffer ws table rest

abbrev pub FitsAt : State → Session → List ℕ → List ℕ → Type 0
FitsAt Closed s ws table = Unit {0}
FitsAt (Rest p b t items) s ws table = RestFits s ws table items
FitsAt (Busy p b t items task rest) s ws table = TaskFits task s items rest ws table × Reads s (olds_of task) rest ws table
FitsAt (Formatting o b t rest) s ws table = Unit {0}

abbrev pub Fits : Session → List ℕ → List ℕ → Type 0
Fits s ws table = Proper s × FitsAt (state_of s) s ws table
