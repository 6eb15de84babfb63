-- What a chunk holds, by the image's entries: how many of its entries or blocks the register still goes by. Of a log
-- chunk the entries are told, of a data chunk the blocks.
-- Assumes nothing.
use Rattle.std.specs.Prelude.{ℕ, ◌-◌, ◌/◌, Bool, List, length, ◌==◌, nat_le, nat_lt}
use Rattle.std.proofs.Math.Option.{Option}
use Rattle.spec.specs.Basics.{pick, both, negate, filter, first, up_from}
use Rattle.spec.specs.Places.{chunk_units, unit_chunk}
use Rattle.spec.specs.Directory.{role_at, is_data}
use Rattle.spec.specs.Log.{Entry}
use Rattle.spec.specs.Blocks.{pointed}
use Rattle.spec.specs.Contents.{chosen, is_at, in_chunk}
use Rattle.spec.specs.Plans.{has_live}
use Rattle.spec.specs.declared.Role.{Role}
use Rattle.spec.specs.declared.Role.TheVariants as R
use Rattle.inspect.specs.declared.counts.Tally.{Tally}
use Rattle.inspect.specs.declared.ChunkRow.{ChunkRow}

-- how many blocks of s units a chunk of 2^p bytes has
abbrev pub blocks_for : (p : ℕ) → ℕ → ℕ
blocks_for p s = pick (s == 0) 0 (chunk_units p / s)

-- ## The entries

abbrev pub count_of : (Entry → Bool) → List Entry → ℕ
count_of test es = length (filter test es)

-- the register goes by the entry
abbrev pub is_chosen : List Entry → Entry → Bool
is_chosen es e = is_at (chosen e.key es) e.at

abbrev pub is_live_put : (p : ℕ) → ℕ → List Entry → Entry → Bool
is_live_put p c es e = both (in_chunk p c e) (both (is_chosen es e) (e.op == 1))

abbrev pub is_live_delete : (p : ℕ) → ℕ → List Entry → Entry → Bool
is_live_delete p c es e = both (in_chunk p c e) (both (is_chosen es e) (negate (e.op == 1)))

abbrev pub is_passed : (p : ℕ) → ℕ → List Entry → Entry → Bool
is_passed p c es e = both (in_chunk p c e) (negate (is_chosen es e))

-- the register goes by the entry, and its value is in a block of the chunk: a live block has one such entry
abbrev pub is_live_block : (p : ℕ) → ℕ → List Entry → Entry → Bool
is_live_block p c es e = both (is_chosen es e) (both (pointed e) (unit_chunk p e.field == c))

-- of log chunk c
unfoldable pub tally_of : (p : ℕ) → List Entry → ℕ → Tally
tally_of p es c = record { live = count_of (is_live_put p c es) es; deletes = count_of (is_live_delete p c es) es; superseded = count_of (is_passed p c es) es }

-- of data chunk c
unfoldable pub used_in : (p : ℕ) → List Entry → ℕ → ℕ
used_in p es c = count_of (is_live_block p c es) es

-- ## The row

abbrev pub plain_row : (refused role : ℕ) → ChunkRow
plain_row refused role = record { refused = refused; role = role; size = 0; live = 0; deletes = 0; superseded = 0; blocks = 0; used = 0 }

abbrev pub log_row : (lines : ℕ) → Tally → ChunkRow
log_row lines t = record { refused = 0; role = 1; size = lines; live = t.live; deletes = t.deletes; superseded = t.superseded; blocks = 0; used = 0 }

abbrev pub data_row : (p : ℕ) → (size used : ℕ) → ChunkRow
data_row p size used = record { refused = 0; role = 2; size = size; live = 0; deletes = 0; superseded = 0; blocks = blocks_for p size; used = used }

-- by what the directory says of chunk c
abbrev pub row_for : (p : ℕ) → List Entry → (c : ℕ) → Role → ChunkRow
row_for p es c R.Free = plain_row 0 0
row_for p es c (R.Log lines) = log_row lines (tally_of p es c)
row_for p es c (R.Data size) = data_row p size (used_in p es c)
row_for p es c R.Wrong = plain_row 0 3

-- of chunk c of an image of n chunks with the words ws and the entries es; 16 where it has no such chunk
unfoldable pub row_of : (p : ℕ) → List ℕ → List Entry → (n c : ℕ) → ChunkRow
row_of p ws es n c = pick (both (nat_le 1 c) (nat_lt c n)) (row_for p es c (role_at p ws c)) (plain_row 16 0)

-- ## A data chunk to clean: of n the first from chunk `from` on with no live block (as a cleaning asks it,
-- `Plans.has_live`)

abbrev pub is_empty_data : (p : ℕ) → List ℕ → List Entry → (from c : ℕ) → Bool
is_empty_data p ws es from c = both (nat_le from c) (both (is_data (role_at p ws c)) (negate (has_live p es c)))

unfoldable pub empty_chunk : (p : ℕ) → List ℕ → List Entry → (n from : ℕ) → Option ℕ
empty_chunk p ws es n from = first (filter (is_empty_data p ws es from) (up_from 1 (n - 1)))
