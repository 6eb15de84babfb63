-- The lines of the table, one after the other, and that they have room.
-- Assumes nothing.
use Rattle.std.proofs.Common.{◌≡◌, ℕ, zero, suc, ◌+◌, ◌*◌, ◌≤◌, List, [], ◌∷◌, ◌++◌, length, add-one, arith, length-append}
use Rattle.text.specs.Text.{decimal, with_bytes, Writes}
use Rattle.text.proofs.Texts.{put-writes, writes-none, writes-on}
use Rattle.text.proofs.Decimals.{decimal-length}
use Rattle.sizes.specs.Table.{size_of_units, line_text, lines_text, table_text, text_bytes}

pub line-text : (n : ℕ) (t u v : List ℕ) (size units : ℕ) → size ≡ size_of_units units → u ≡ with_bytes n t (decimal size) → v ≡ with_bytes n u (10 ∷ []) → Writes n t v (line_text units)
line-text n t u v size units e a b = writes-on n t u v (decimal (size_of_units units)) (10 ∷ []) (rw e at (put-writes n t u (decimal size) a)) (put-writes n u v (10 ∷ []) b)

pub lines_start : (n : ℕ) → Writes n [] [] (lines_text 0)
unfolding lines_text
lines_start n = writes-none n []

pub lines-on : (n : ℕ) (t u v : List ℕ) (units : ℕ) → Writes n t u (lines_text units) → Writes n u v (line_text units) → Writes n t v (lines_text (units + 1))
unfolding lines_text
lines-on n t u v units a b = rw (add-one units) (writes-on n t u v (lines_text units) (line_text units) a b)

lines-length : (u : ℕ) → length (lines_text u) ≤ 21 * u
unfolding lines_text
lines-length zero = omega arith
lines-length (suc u) =
    let a = length-append (lines_text u) (line_text u) in
    let b = length-append (decimal (size_of_units u)) (10 ∷ []) in
    let c = decimal-length (size_of_units u) in
    let d = lines-length u in
    omega arith

pub table-is : (u : List ℕ) → Writes text_bytes [] u table_text → u ≡ table_text
table-is u w = w.writes (let n = lines-length 257 in omega arith)
