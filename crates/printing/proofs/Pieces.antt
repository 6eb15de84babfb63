-- Pieces of a line one behind the other, where a page begins, and how long a line is.
-- Assumes nothing.
use Rattle.std.proofs.Common.{◌≡◌, ℕ, suc, ◌+◌, ◌%◌, ◌≤◌, Bool, true, false, eqb, List, [], ◌∷◌, ◌++◌, length, refl, ap, arith, length-append, eq-eqb, ne_eqb}
use Rattle.spec.specs.Basics.{pick}
use Rattle.text.specs.Text.{most_digits, decimal, right_in, with_bytes, Writes}
use Rattle.text.proofs.Decimals.{decimal-length}
use Rattle.text.proofs.Texts.{put-writes, writes-none, writes-on}
use Rattle.text.proofs.Columns.{right-length, column-length}
use Rattle.lookup.specs.declared.Listing.{Listing}
use Rattle.printing.specs.declared.Layout.{Layout}
use Rattle.printing.specs.declared.Layout.TheVariants as Y
use Rattle.printing.specs.Lines.{place_text, key_columns, version_columns, length_columns, row_columns, page_rows, column_text, line_text, heading_text, page_text, break_text, head_text, entry_text, entry_most}

-- ## Pieces

pub put-three : (n : ℕ) (t u v w xs ys zs : List ℕ) → u ≡ with_bytes n t xs → v ≡ with_bytes n u ys → w ≡ with_bytes n v zs → Writes n t w (xs ++ (ys ++ zs))
put-three n t u v w xs ys zs x y z = writes-on n t u w xs (ys ++ zs) (put-writes n t u xs x) (writes-on n u v w ys zs (put-writes n u v ys y) (put-writes n v w zs z))

-- three numbers, with a blank in front of two, and the end of a line
pub writes-line : (n : ℕ) (t u v w x y z xs ys zs es : List ℕ) → Writes n t u xs → v ≡ with_bytes n u (32 ∷ []) → Writes n v w ys → x ≡ with_bytes n w (32 ∷ []) → Writes n x y zs → Writes n y z es
    → Writes n t z (xs ++ ((32 ∷ []) ++ (ys ++ ((32 ∷ []) ++ (zs ++ es)))))
writes-line n t u v w x y z xs ys zs es a b c d e f =
    writes-on n t u z xs _ a
    (writes-on n u v z (32 ∷ []) _ (put-writes n u v _ b)
    (writes-on n v w z ys _ c
    (writes-on n w x z (32 ∷ []) _ (put-writes n w x _ d)
    (writes-on n x y z zs es e f))))

-- ## Pages

pub heading-is : heading_text ≡ 32 ∷ 32 ∷ 32 ∷ 32 ∷ 32 ∷ 32 ∷ 32 ∷ 32 ∷ 32 ∷ 32 ∷ 32 ∷ 32 ∷ 32 ∷ 32 ∷ 32 ∷ 32 ∷ 32 ∷ 75 ∷ 69 ∷ 89 ∷ 32 ∷ 86 ∷ 69 ∷ 82 ∷ 83 ∷ 73 ∷ 79 ∷ 78 ∷ 32 ∷ 66 ∷ 89 ∷ 84 ∷ 69 ∷ 83 ∷ 32 ∷ 80 ∷ 10 ∷ []
unfolding heading_text right_in
heading-is = refl

-- no page begins before the first row, and none before a row that has place on its page
pub first-row : (n : ℕ) (t : List ℕ) (row : ℕ) → row ≡ 0 → Writes n t t (page_text row)
first-row n t row e = rw e (writes-none n t)

pub same-page : (n : ℕ) (t : List ℕ) (row : ℕ) → (row ≡ 0 → ⊥) → (row % page_rows ≡ 0 → ⊥) → Writes n t t (page_text row)
same-page n t row z m = rw (ne_eqb row 0 z, ne_eqb (row % page_rows) 0 m) (writes-none n t)

pub new-page : (n : ℕ) (t u v : List ℕ) (row : ℕ) → (row ≡ 0 → ⊥) → row % page_rows ≡ 0 → u ≡ with_bytes n t (12 ∷ []) → Writes n u v heading_text → Writes n t v (page_text row)
new-page n t u v row z m e w = rw (ne_eqb row 0 z, eq-eqb (row % page_rows) 0 m) (writes-on n t u v (12 ∷ []) heading_text (put-writes n t u (12 ∷ []) e) w)

-- ## How long

place-length : (b : Bool) → length (place_text b) ≡ 3
place-length true = refl
place-length false = refl

column-most : (y : Layout) (width n : ℕ) → width ≤ most_digits → length (column_text y width n) ≤ most_digits
column-most Y.Lines width n l = decimal-length n
column-most Y.Pages width n l = column-length width n l

line-length : (y : Layout) (key : ℕ) (l : Listing)
    → length (line_text y key l) ≡ length (column_text y key_columns key) + length (column_text y version_columns l.version) + length (column_text y length_columns l.length) + 5
line-length layout key l =
    let p = place-length l.block in
    let k = column_text layout key_columns key in
    let x = column_text layout version_columns l.version in
    let y = column_text layout length_columns l.length in
    let e1 = length-append y (place_text l.block) in
    let e2 = length-append (32 ∷ []) (y ++ place_text l.block) in
    let e3 = length-append x ((32 ∷ []) ++ (y ++ place_text l.block)) in
    let e4 = length-append (32 ∷ []) (x ++ ((32 ∷ []) ++ (y ++ place_text l.block))) in
    let e5 = length-append k ((32 ∷ []) ++ (x ++ ((32 ∷ []) ++ (y ++ place_text l.block)))) in
    omega arith

pub number-length : (xs : List ℕ) (n : ℕ) → length (xs ++ (decimal n ++ (10 ∷ []))) ≤ length xs + 21
number-length xs n =
    let a = length-append xs (decimal n ++ (10 ∷ [])) in
    let b = length-append (decimal n) (10 ∷ []) in
    let c = decimal-length n in
    omega arith

heading-length : length heading_text ≡ suc row_columns
heading-length = ap length heading-is

page-length : (row : ℕ) → length (page_text row) ≤ 38
page-length row = go (eqb row 0) (eqb (row % page_rows) 0)
  where
    go : (a b : Bool) → length (pick a [] (pick b (12 ∷ heading_text) [])) ≤ 38
    go true b = omega arith
    go false true = let h = heading-length in omega arith
    go false false = omega arith

break-length : (y : Layout) (row : ℕ) → length (break_text y row) + 65 ≤ entry_most y
break-length Y.Lines row = omega arith
break-length Y.Pages row = let l = page-length row in omega arith

pub entry_length : (y : Layout) (row key : ℕ) (l : Listing) → length (entry_text y row key l) ≤ entry_most y
entry_length layout row key l =
    let a = break-length layout row in
    let b = line-length layout key l in
    let x = column-most layout key_columns key (omega arith) in
    let y = column-most layout version_columns l.version (omega arith) in
    let z = column-most layout length_columns l.length (omega arith) in
    let e = length-append (break_text layout row) (line_text layout key l) in
    omega arith

pub head-length : (y : Layout) (n : ℕ) → length (head_text y n) ≤ 40
head-length Y.Lines n = let l = number-length (107 ∷ 101 ∷ 121 ∷ 115 ∷ 32 ∷ []) n in omega arith
head-length Y.Pages n = let h = heading-length in omega arith

-- 36 COLUMNS and a newline, where the numbers fit theirs
pub row-length : (key : ℕ) (l : Listing) → length (decimal key) ≤ key_columns → length (decimal l.version) ≤ version_columns → length (decimal l.length) ≤ length_columns → length (line_text Y.Pages key l) ≡ suc row_columns
row-length key l x y z =
    let m = line-length Y.Pages key l in
    let p = right-length key_columns (decimal key) x in
    let q = right-length version_columns (decimal l.version) y in
    let r = right-length length_columns (decimal l.length) z in
    omega arith
