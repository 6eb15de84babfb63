-- The sheet as it lies on paper: the rows of a page, and one page behind the other.
-- Assumes nothing.
use Rattle.std.specs.Prelude.{◌≡◌, List, [], ◌∷◌, ◌++◌, ℕ, ◌≤◌, length, Ok, Err}
use Rattle.spec.specs.Log.{Entry}
use Rattle.lookup.specs.Listing.{Listed, listed_of}
use Rattle.printing.specs.declared.Layout.TheVariants as Y
use Rattle.printing.specs.Lines.{page_rows, line_text, heading_text}

-- the row of a key, and of keys, one below the other
abbrev pub row_of : ℕ → Listed → List ℕ
row_of key (Err n) = []
row_of key (Ok l) = line_text Y.Pages key l

abbrev pub rows_text : List ℕ → List Entry → List ℕ → List ℕ
rows_text ws es [] = []
rows_text ws es (k ∷ ks) = row_of k (listed_of ws es k) ++ rows_text ws es ks

-- a page: the heading and its rows
abbrev pub page_of : List ℕ → List Entry → List ℕ → List ℕ
page_of ws es keys = heading_text ++ rows_text ws es keys

-- THE PAGES of keys are a text: one page, if it holds them; or a full page and, where a key is left, a form feed and
-- the pages of the rest
pub data Pages : List ℕ → List Entry → List ℕ → List ℕ → Type 0 where
  One : (ws : List ℕ) (es : List Entry) (keys text : List ℕ) → length keys ≤ page_rows → text ≡ page_of ws es keys → Pages ws es keys text
  More : (ws : List ℕ) (es : List Entry) (keys text page : List ℕ) (k : ℕ) (rest more : List ℕ) → length page ≡ page_rows → keys ≡ page ++ k ∷ rest → Pages ws es (k ∷ rest) more
      → text ≡ page_of ws es page ++ (12 ∷ more) → Pages ws es keys text
