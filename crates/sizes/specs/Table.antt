-- The table of block sizes that `sizes` prints: for so many units of a large chunk, the block size that holds them.
-- Assumes nothing.
use Rattle.std.specs.Prelude.{List, [], ◌∷◌, ◌++◌, ℕ, zero, suc, leb}
use Rattle.spec.specs.Basics.{pick, both}
use Rattle.spec.specs.Places.{chunk_units}
use Rattle.spec.specs.Directory.{size_for}
use Rattle.text.specs.Text.{decimal}

-- 0 below 2 units, and past a chunk's 256
abbrev pub size_of_units : ℕ → ℕ
size_of_units u = pick (both (leb 2 u) (leb u (chunk_units 16))) (size_for 16 u) 0

abbrev pub line_text : ℕ → List ℕ
line_text u = decimal (size_of_units u) ++ (10 ∷ [])

-- the lines of 0 units to so many, without the last
unfoldable pub lines_text : ℕ → List ℕ
lines_text zero = []
lines_text (suc u) = lines_text u ++ line_text u

-- THE TABLE
abbrev pub table_text : List ℕ
table_text = lines_text 257

-- room for so many lines of 20 digits
abbrev pub text_bytes : ℕ
text_bytes = 5397
