-- Lines and page breaks as the definitions compute them.
-- Assumes nothing.
use mathlib.Core.Path.{◌≡◌, refl}
use mathlib.Core.Bool.{true, false}
use mathlib.Core.List.{[], ◌∷◌}
use Rattle.text.specs.Text.{decimal, right_in}
use Rattle.printing.specs.declared.Layout.TheVariants as Y
use Rattle.printing.specs.Lines.{line_text, heading_text, page_text}

-- 7 1 5 L, as `list` has it and as a row
line-seven : line_text Y.Lines 7 (record { version = 1; length = 5; block = false }) ≡ 55 ∷ 32 ∷ 49 ∷ 32 ∷ 53 ∷ 32 ∷ 76 ∷ 10 ∷ []
unfolding decimal
line-seven = refl

row-seven : line_text Y.Pages 7 (record { version = 1; length = 5; block = false }) ≡ 32 ∷ 32 ∷ 32 ∷ 32 ∷ 32 ∷ 32 ∷ 32 ∷ 32 ∷ 32 ∷ 32 ∷ 32 ∷ 32 ∷ 32 ∷ 32 ∷ 32 ∷ 32 ∷ 32 ∷ 32 ∷ 32 ∷ 55 ∷ 32 ∷ 32 ∷ 32 ∷ 32 ∷ 32 ∷ 32 ∷ 32 ∷ 49 ∷ 32 ∷ 32 ∷ 32 ∷ 32 ∷ 32 ∷ 53 ∷ 32 ∷ 76 ∷ 10 ∷ []
unfolding decimal right_in
row-seven = refl

-- the highest key and version, and the largest block
row-highest : line_text Y.Pages 18446744073709551615 (record { version = 1048575; length = 4088; block = true }) ≡ 49 ∷ 56 ∷ 52 ∷ 52 ∷ 54 ∷ 55 ∷ 52 ∷ 52 ∷ 48 ∷ 55 ∷ 51 ∷ 55 ∷ 48 ∷ 57 ∷ 53 ∷ 53 ∷ 49 ∷ 54 ∷ 49 ∷ 53 ∷ 32 ∷ 49 ∷ 48 ∷ 52 ∷ 56 ∷ 53 ∷ 55 ∷ 53 ∷ 32 ∷ 32 ∷ 52 ∷ 48 ∷ 56 ∷ 56 ∷ 32 ∷ 66 ∷ 10 ∷ []
unfolding decimal right_in
row-highest = refl

-- no page begins before the first row, the 50th and the 52nd; one does before the 51st and the 101st
page-first : page_text 0 ≡ []
page-first = refl

page-50th : page_text 49 ≡ []
page-50th = refl

page-51st : page_text 50 ≡ 12 ∷ heading_text
page-51st = refl

page-52nd : page_text 51 ≡ []
page-52nd = refl

page-101st : page_text 100 ≡ 12 ∷ heading_text
page-101st = refl
