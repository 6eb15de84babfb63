-- The header line: which are right, and what a formatting writes.
-- Assumes nothing.
--
--   word | meaning
--   0    | bit map: bit 0 chunk count (always), bit 1 station number, bit 2 centre number, bit 3 chunk power; every
--        | other bit 0
--   1..  | the fields whose bit stands, in bit order; the count is first
--   ..6  | unused words: 0
--   7    | makes the eight words, summed modulo 2^64, give 0
use Rattle.std.specs.Prelude.{Bool, List, [], ◌∷◌, ◌++◌, ℕ, ◌+◌, ◌-◌, ◌%◌, eqb, get_or}
use Rattle.spec.specs.Basics.{pick, both, either}
use Rattle.spec.specs.Places.{base_power}
use Rattle.spec.specs.Basics.{Given}
use Rattle.std.specs.declared.option.Option.TheVariants as G

abbrev pub word_values : ℕ
word_values = 18446744073709551616

-- the words behind the count, by the bit map: those behind the last field are 0
-- R3
unfoldable pub fields_test : ℕ → ℕ → ℕ → ℕ → Bool
fields_test map c d e =
    pick (eqb map 1) (eqb (c + d + e) 0)
    (pick (either (eqb map 3) (either (eqb map 5) (eqb map 9))) (eqb (d + e) 0)
    (pick (either (eqb map 7) (either (eqb map 11) (eqb map 13))) (eqb e 0) (eqb map 15)))

-- the eight words a to h of a header of n chunks
-- R3, R4
unfoldable pub header_test : ℕ → ℕ → ℕ → ℕ → ℕ → ℕ → ℕ → ℕ → ℕ → Bool
header_test n a b c d e f g h =
    both (eqb ((a + b + c + d + e + f + g + h) % word_values) 0) (both (eqb b n) (both (eqb (f + g) 0) (fields_test a c d e)))

-- the chunk power that a header says: its last field if the map has bit 3, else that of small chunks
-- R90
unfoldable pub power_said : ℕ → ℕ → ℕ → ℕ → ℕ
power_said map c d e = pick (eqb map 9) c (pick (either (eqb map 11) (eqb map 13)) d (pick (eqb map 15) e base_power))

abbrev pub header_power : List ℕ → ℕ
header_power ws = power_said (get_or ws 0 0) (get_or ws 2 0) (get_or ws 3 0) (get_or ws 4 0)

-- the header of an image of n chunks is right
-- R24
abbrev pub header_right : ℕ → List ℕ → Bool
header_right n ws = header_test n (get_or ws 0 0) (get_or ws 1 0) (get_or ws 2 0) (get_or ws 3 0) (get_or ws 4 0) (get_or ws 5 0) (get_or ws 6 0) (get_or ws 7 0)

-- what the writer makes
abbrev pub bit_of : ℕ → Given → ℕ
bit_of b (G.Some x) = b
bit_of b G.None = 0

-- the power's bit and field; there is none for small chunks
-- R90
unfoldable pub power_bit : ℕ → ℕ
power_bit p = pick (eqb p base_power) 0 8

-- R90
unfoldable pub power_field : ℕ → ℕ
power_field p = pick (eqb p base_power) 0 p

-- R3
abbrev pub header_map : ℕ → Given → Given → ℕ
header_map p station centre = 1 + bit_of 2 station + bit_of 4 centre + power_bit p

-- the fields behind the count and the unused words, x being the power's field
abbrev pub fields_of : ℕ → Given → Given → List ℕ
fields_of x (G.Some s) (G.Some c) = s ∷ c ∷ x ∷ 0 ∷ 0 ∷ []
fields_of x (G.Some s) G.None = s ∷ x ∷ 0 ∷ 0 ∷ 0 ∷ []
fields_of x G.None (G.Some c) = c ∷ x ∷ 0 ∷ 0 ∷ 0 ∷ []
fields_of x G.None G.None = x ∷ 0 ∷ 0 ∷ 0 ∷ 0 ∷ []

-- R3
abbrev pub given_fields : ℕ → Given → Given → List ℕ
given_fields p station centre = fields_of (power_field p) station centre

abbrev pub sum : List ℕ → ℕ
sum [] = 0
sum (x ∷ xs) = x + sum xs

-- word 7: the sum's complement
-- R4
abbrev pub check_word : ℕ → ℕ
check_word s = (word_values - s % word_values) % word_values

-- words 1 to 7 of the header of n chunks of 2^p bytes
unfoldable pub header_tail : ℕ → ℕ → Given → Given → List ℕ
header_tail p n station centre =
    (n ∷ given_fields p station centre) ++ (check_word (header_map p station centre + (n + sum (given_fields p station centre))) ∷ [])

unfoldable pub header_words : ℕ → ℕ → Given → Given → List ℕ
header_words p n station centre = header_map p station centre ∷ header_tail p n station centre
