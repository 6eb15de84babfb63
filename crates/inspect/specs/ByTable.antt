-- The row of a chunk, and the search for an empty one, by the words of the key table, whatever these hold.
-- Assumes nothing.
use Rattle.std.specs.Prelude.{ℕ, Bool, List, ◌==◌, nat_le, nat_lt}
use Rattle.spec.specs.declared.Size.{Size}
use Rattle.places.specs.Sizes.{power_of}
use Rattle.spec.specs.Basics.{pick, both}
use Rattle.spec.specs.Directory.{role_at, is_data}
use Rattle.spec.specs.declared.Role.{Role}
use Rattle.spec.specs.declared.Role.TheVariants as D
use Rattle.spec.specs.declared.Refusal.TheVariants as N
use Rattle.spec.specs.declared.Report.{Report}
use Rattle.spec.specs.declared.Report.TheVariants as R
use Rattle.inspect.specs.ChunkCounts.{tally_by, blocks_by}
use Rattle.inspect.specs.declared.ChunkRow.{ChunkRow}
use Rattle.inspect.specs.Rows.{plain_row, log_row, data_row}

abbrev pub row_by : (size : Size) → (ws table : List ℕ) (n c : ℕ) → Role → ChunkRow
row_by size ws table n c D.Free = plain_row 0 0
row_by size ws table n c (D.Log lines) = log_row lines (tally_by size ws table c)
row_by size ws table n c (D.Data units) = data_row (power_of size) units (blocks_by size ws table n c)
row_by size ws table n c D.Wrong = plain_row 0 3

unfoldable pub row_at : (size : Size) → (ws table : List ℕ) (n c : ℕ) → ChunkRow
row_at size ws table n c = pick (both (nat_le 1 c) (nat_lt c n)) (row_by size ws table n c (role_at (power_of size) ws c)) (plain_row 16 0)

abbrev pub empty_by : (size : Size) → (ws table : List ℕ) (n from c : ℕ) → Bool
empty_by size ws table n from c = both (nat_le from c) (both (is_data (role_at (power_of size) ws c)) (blocks_by size ws table n c == 0))

-- the report of a search that stopped at chunk c of n
abbrev pub found_by : (c n : ℕ) → Report
found_by c n = pick (nat_lt c n) (R.Chosen c) (R.Refused N.NotCleanable)
