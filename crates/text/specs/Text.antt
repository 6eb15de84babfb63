-- The decimal digits of a number, and bytes behind a text: in lent bytes, and in a text of limited length.
-- Assumes nothing.
use Rattle.std.specs.Prelude.{◌≡◌, ℕ, zero, suc, ◌+◌, ◌-◌, ◌/◌, ◌%◌, ◌≤◌, Bool, List, [], ◌∷◌, ◌++◌, length, take, drop, replicate, ◌==◌, nat_le}
use Rattle.spec.specs.Basics.{pick}

-- the last digits of a number, so many at most: those of its tenth, if that is not 0, and then its last one
abbrev pub last_digits : ℕ → ℕ → List ℕ
last_digits zero n = []
last_digits (suc d) n = pick (n / 10 == 0) [] (last_digits d (n / 10)) ++ ((48 + n % 10) ∷ [])

-- THE DECIMAL DIGITS of a number of 64 bits, which has 20 at most
abbrev pub most_digits : ℕ
most_digits = 20

unfoldable pub decimal : ℕ → List ℕ
decimal n = last_digits most_digits n

-- A TEXT RIGHT-ALIGNED in so many columns: blanks, then the text, which stays whole where the columns do not hold it
unfoldable pub right_in : ℕ → List ℕ → List ℕ
right_in width xs = replicate (width - length xs) 32 ++ xs

-- in lent bytes: bytes behind the first `at` of t, where t has room for them, and how far the text goes then
abbrev pub has_room_at : List ℕ → ℕ → List ℕ → Bool
has_room_at t at xs = nat_le (at + length xs) (length t)

unfoldable pub with_bytes_at : List ℕ → ℕ → List ℕ → List ℕ
with_bytes_at t at xs = pick (has_room_at t at xs) (take at t ++ xs ++ drop (at + length xs) t) t

unfoldable pub behind : List ℕ → ℕ → List ℕ → ℕ
behind t at xs = pick (has_room_at t at xs) (at + length xs) at

-- bytes behind a text, where they have room in so many bytes
abbrev pub has_room : ℕ → List ℕ → List ℕ → Bool
has_room n t xs = nat_le (length t + length xs) n

unfoldable pub with_bytes : ℕ → List ℕ → List ℕ → List ℕ
with_bytes n t xs = pick (has_room n t xs) (t ++ xs) t

-- the digits stand at the end of the lent bytes; those before them stay
pub record Digits (out out' : List ℕ) (number from : ℕ) : Type 0 where
  pub sized : length out' ≡ most_digits
  pub start : from ≤ most_digits
  pub spelled : drop from out' ≡ decimal number
  pub before : take from out' ≡ take from out

-- a text goes on by these bytes, where they have room in so many
pub record Writes (n : ℕ) (t u xs : List ℕ) : Type 0 where
  pub writes : length t + length xs ≤ n → u ≡ t ++ xs
