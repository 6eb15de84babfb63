-- Digits right-aligned: in lent blanks, the digits and as many blanks before them as the columns leave.
-- Assumes nothing.
use Rattle.std.proofs.Common.{◌≡◌, ℕ, ◌+◌, ◌-◌, ◌≤◌, List, ◌++◌, length, take, drop, replicate, sym, ap, ◌∙◌, ap₂, arith, length-append, length-drop, take-append-drop, take_all, take_at, drop_at}
use lib.ListN.{length-replicate, replicate-append-replicate}
use lib.Seq.{drop-append-le}
use Rattle.text.specs.Text.{most_digits, decimal, right_in, Digits}
use Rattle.text.proofs.Decimals.{decimal-length}

abbrev blanks : ℕ → List ℕ
blanks n = replicate n 32

blanks-split : (n k : ℕ) → k ≤ n → blanks n ≡ blanks k ++ blanks (n - k)
blanks-split n k l = ap blanks (let e : n ≡ k + (n - k) = omega arith in e) ∙ sym (replicate-append-replicate k (n - k) 32)

take-blanks : (n k : ℕ) → k ≤ n → take k (blanks n) ≡ blanks k
take-blanks n k l = ap (take k) (blanks-split n k l) ∙ take_at (blanks k) (blanks (n - k)) k (length-replicate k 32)

drop-blanks : (n k : ℕ) → k ≤ n → drop k (blanks n) ≡ blanks (n - k)
drop-blanks n k l = ap (drop k) (blanks-split n k l) ∙ drop_at (blanks k) (blanks (n - k)) k (length-replicate k 32)

-- from a place s on, before the digits, stand the digits right-aligned
pub column : (out : List ℕ) (number from width s : ℕ) → Digits (blanks most_digits) out number from → s ≤ from → from - s ≡ width - (most_digits - from) → take (most_digits - s) (drop s out) ≡ right_in width (decimal number)
unfolding right_in
column out number from width s d l w =
    let long = d.sized in
    let most = d.start in
    let n : length (decimal number) ≡ most_digits - from = ap length (sym d.spelled) ∙ length-drop from out ∙ ap (λ (k : ℕ). k - from) long in
    let front : take from out ≡ blanks from = d.before ∙ take-blanks most_digits from most in
    let whole : out ≡ blanks from ++ decimal number = sym (take-append-drop from out) ∙ ap₂ (λ (x y : List ℕ). x ++ y) front d.spelled in
    let b = length-replicate {A = ℕ} from 32 in
    take_all (most_digits - s) (drop s out) (let k = length-drop s out in omega arith)
    ∙ ap (drop s) whole ∙ drop-append-le s (blanks from) (decimal number) (omega arith) ∙ ap (λ (x : List ℕ). x ++ decimal number) (drop-blanks from s l ∙ ap blanks (w ∙ ap (λ (k : ℕ). width - k) (sym n)))

-- in no column the digits stand as they are
pub right-none : (xs : List ℕ) → right_in 0 xs ≡ xs
unfolding right_in
right-none xs = ap (λ (k : ℕ). blanks k ++ xs) (let e : 0 - length xs ≡ 0 = omega arith in e)

-- how long, where the columns hold the text; and of digits in any case
pub right-length : (width : ℕ) (xs : List ℕ) → length xs ≤ width → length (right_in width xs) ≡ width
unfolding right_in
right-length width xs l = length-append (blanks (width - length xs)) xs ∙ (let b = length-replicate {A = ℕ} (width - length xs) 32 in omega arith)

pub column-length : (width n : ℕ) → width ≤ most_digits → length (right_in width (decimal n)) ≤ most_digits
unfolding right_in
column-length width n l =
    let d = decimal-length n in
    let e = length-append (blanks (width - length (decimal n))) (decimal n) in
    let b = length-replicate {A = ℕ} (width - length (decimal n)) 32 in
    omega arith
