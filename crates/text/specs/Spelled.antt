-- The number that decimal digits spell.
-- Assumes nothing.
use Rattle.std.specs.Prelude.{ℕ, ◌+◌, ◌-◌, ◌*◌, ◌%◌, ◌^◌, Bool, List, [], ◌∷◌, nat_le, Option, Some, None}
use Rattle.spec.specs.Basics.{pick, both}

abbrev pub is_digit : ℕ → Bool
is_digit b = both (nat_le 48 b) (nat_le b 57)

-- one digit more behind a number, modulo 2^64
abbrev pub with_digit : ℕ → ℕ → ℕ
with_digit v b = (10 * v + (b - 48)) % 2 ^ 64

-- what the digits at the front of a text spell, behind a number so far
abbrev pub spelled : List ℕ → ℕ → ℕ
spelled [] v = v
spelled (b ∷ bs) v = pick (is_digit b) (spelled bs (with_digit v b)) v

-- THE NUMBER that a text begins with, if a digit stands there; and the text behind its digits
abbrev pub number_of : List ℕ → Option ℕ
number_of [] = None
number_of (b ∷ bs) = pick (is_digit b) (Some (spelled (b ∷ bs) 0)) None

abbrev pub behind_digits : List ℕ → List ℕ
behind_digits [] = []
behind_digits (b ∷ bs) = pick (is_digit b) (behind_digits bs) (b ∷ bs)
