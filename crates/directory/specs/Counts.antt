-- The committed lines of an image.
-- Assumes nothing.
use Rattle.std.specs.Prelude.{List, ℕ, ◌-◌, sum_by}
use Rattle.spec.specs.Basics.{up_from}
use Rattle.spec.specs.Directory.{lines_of}

-- the committed lines of the log chunks of n chunks; a chunk that is no log chunk has none
abbrev pub lines_used : ℕ → ℕ → List ℕ → ℕ
lines_used p n ws = sum_by (lines_of p ws) (up_from 1 (n - 1))
