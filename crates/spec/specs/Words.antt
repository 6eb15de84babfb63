-- Words of an image of bytes, the lower byte first, and the bytes of a value.
-- Assumes nothing.
use Rattle.std.specs.Prelude.{List, [], ◌∷◌, ◌++◌, ℕ, zero, suc, ◌+◌, ◌*◌, ◌/◌, ◌%◌, ◌<◌, length, get_or, take}

-- every number of the list is a byte
abbrev pub AreBytes : List ℕ → Type 0
AreBytes xs = (i : ℕ) → get_or xs i 0 < 256

-- the word of eight bytes
abbrev pub joined : ℕ → ℕ → ℕ → ℕ → ℕ → ℕ → ℕ → ℕ → ℕ
joined a b c d e f g h =
    a + b * 0x100 + c * 0x1_0000 + d * 0x100_0000 + e * 0x1_0000_0000 + f * 0x100_0000_0000 + g * 0x1_0000_0000_0000 + h * 0x100_0000_0000_0000

-- the word w of some bytes; a byte past the end counts as 0
-- R1
unfoldable pub word_at : List ℕ → ℕ → ℕ
word_at xs w =
    get_or xs (8 * w) 0
    + get_or xs (8 * w + 1) 0 * 0x100
    + get_or xs (8 * w + 2) 0 * 0x1_0000
    + get_or xs (8 * w + 3) 0 * 0x100_0000
    + get_or xs (8 * w + 4) 0 * 0x1_0000_0000
    + get_or xs (8 * w + 5) 0 * 0x100_0000_0000
    + get_or xs (8 * w + 6) 0 * 0x1_0000_0000_0000
    + get_or xs (8 * w + 7) 0 * 0x100_0000_0000_0000

-- n words from word i
abbrev pub words_from : ℕ → ℕ → List ℕ → List ℕ
words_from zero i xs = []
words_from (suc n) i xs = word_at xs i ∷ words_from n (suc i) xs

-- the words of an image; bytes past its last whole word belong to none
-- R1
unfoldable pub words_of : List ℕ → List ℕ
words_of xs = words_from (length xs / 8) 0 xs

-- the words of a value's bytes, zero-filled to 8 bytes
-- R11
abbrev pub packed : List ℕ → List ℕ
packed [] = []
packed (a ∷ []) = joined a 0 0 0 0 0 0 0 ∷ []
packed (a ∷ b ∷ []) = joined a b 0 0 0 0 0 0 ∷ []
packed (a ∷ b ∷ c ∷ []) = joined a b c 0 0 0 0 0 ∷ []
packed (a ∷ b ∷ c ∷ d ∷ []) = joined a b c d 0 0 0 0 ∷ []
packed (a ∷ b ∷ c ∷ d ∷ e ∷ []) = joined a b c d e 0 0 0 ∷ []
packed (a ∷ b ∷ c ∷ d ∷ e ∷ f ∷ []) = joined a b c d e f 0 0 ∷ []
packed (a ∷ b ∷ c ∷ d ∷ e ∷ f ∷ g ∷ []) = joined a b c d e f g 0 ∷ []
packed (a ∷ b ∷ c ∷ d ∷ e ∷ f ∷ g ∷ h ∷ rest) = joined a b c d e f g h ∷ packed rest

-- the bytes of a word, and of words
abbrev pub eight_bytes : ℕ → List ℕ
eight_bytes v =
    v % 256 ∷ v / 0x100 % 256 ∷ v / 0x1_0000 % 256 ∷ v / 0x100_0000 % 256 ∷ v / 0x1_0000_0000 % 256
    ∷ v / 0x100_0000_0000 % 256 ∷ v / 0x1_0000_0000_0000 % 256 ∷ v / 0x100_0000_0000_0000 % 256 ∷ []

abbrev pub bytes_of : List ℕ → List ℕ
bytes_of [] = []
bytes_of (w ∷ ws) = eight_bytes w ++ bytes_of ws

-- a value: the first n bytes of some words
abbrev pub value_bytes : ℕ → List ℕ → List ℕ
value_bytes n ws = take n (bytes_of ws)
