-- The lines that `list` and `sheet` print, as bytes, in each layout: lines, and pages with columns, as the sheet has.
-- Assumes nothing.
use Rattle.std.specs.Prelude.{Bool, true, false, List, [], ◌∷◌, ◌++◌, ℕ, ◌%◌, eqb}
use Rattle.spec.specs.Basics.{pick}
use Rattle.spec.specs.Reports.{number}
use Rattle.spec.specs.declared.Refusal.{Refusal}
use Rattle.text.specs.Text.{decimal, right_in}
use Rattle.lookup.specs.declared.Listing.{Listing}
use Rattle.printing.specs.declared.Layout.{Layout}
use Rattle.printing.specs.declared.Layout.TheVariants as Y

-- `refused N`, `keys N`, and the end of a line: L for a value in the log, B for one in a block
abbrev pub refused_text : Refusal → List ℕ
refused_text n = (114 ∷ 101 ∷ 102 ∷ 117 ∷ 115 ∷ 101 ∷ 100 ∷ 32 ∷ []) ++ (decimal (number n) ++ (10 ∷ []))

abbrev pub count_text : ℕ → List ℕ
count_text n = (107 ∷ 101 ∷ 121 ∷ 115 ∷ 32 ∷ []) ++ (decimal n ++ (10 ∷ []))

abbrev pub place_text : Bool → List ℕ
place_text true = 32 ∷ 66 ∷ 10 ∷ []
place_text false = 32 ∷ 76 ∷ 10 ∷ []

-- the sheet's columns, those of a whole row, and the rows of a page
abbrev pub key_columns : ℕ
key_columns = 20

abbrev pub version_columns : ℕ
version_columns = 7

abbrev pub length_columns : ℕ
length_columns = 5

abbrev pub row_columns : ℕ
row_columns = 36

abbrev pub page_rows : ℕ
page_rows = 50

-- a number: as it is, or right-aligned in its columns
abbrev pub column_text : Layout → ℕ → ℕ → List ℕ
column_text Y.Lines width n = decimal n
column_text Y.Pages width n = right_in width (decimal n)

-- A LINE: key, version, length, L or B, with a blank between them
abbrev pub line_text : Layout → (key : ℕ) → Listing → List ℕ
line_text layout key l =
    column_text layout key_columns key ++ ((32 ∷ []) ++ (column_text layout version_columns l.version ++ ((32 ∷ []) ++ (column_text layout length_columns l.length ++ place_text l.block))))

-- THE HEADING: KEY, VERSION, BYTES and P in the same columns
unfoldable pub heading_text : List ℕ
heading_text =
    right_in key_columns (75 ∷ 69 ∷ 89 ∷ []) ++ ((32 ∷ []) ++ (right_in version_columns (86 ∷ 69 ∷ 82 ∷ 83 ∷ 73 ∷ 79 ∷ 78 ∷ []) ++ ((32 ∷ []) ++ (right_in length_columns (66 ∷ 89 ∷ 84 ∷ 69 ∷ 83 ∷ []) ++ (32 ∷ 80 ∷ 10 ∷ [])))))

-- A NEW PAGE, with a form feed and the heading, begins before a row that has others before it, all on full pages
abbrev pub page_text : ℕ → List ℕ
page_text row = pick (eqb row 0) [] (pick (eqb (row % page_rows) 0) (12 ∷ heading_text) [])

-- what stands first, and what is printed of a key with so many rows before it
abbrev pub head_text : Layout → ℕ → List ℕ
head_text Y.Lines keys = count_text keys
head_text Y.Pages keys = heading_text

abbrev pub break_text : Layout → ℕ → List ℕ
break_text Y.Lines row = []
break_text Y.Pages row = page_text row

abbrev pub entry_text : Layout → ℕ → (key : ℕ) → Listing → List ℕ
entry_text layout row key l = break_text layout row ++ line_text layout key l

-- the most bytes of what is printed of a key, whatever the numbers
abbrev pub entry_most : Layout → ℕ
entry_most Y.Lines = 65
entry_most Y.Pages = 103
