-- The size of the chunks that a header says, and the station and the centre that it names.
-- Assumes nothing.
use Rattle.std.specs.Prelude.{◌≡◌, ℕ, Bool, List, ◌==◌, slice_index}
use Rattle.spec.specs.Basics.{pick, both, either}
use Rattle.spec.specs.Places.{is_power, chunks_in}
use Rattle.spec.specs.Header.{header_right, header_power}
use Rattle.spec.specs.declared.Size.{Size}
use Rattle.spec.specs.Basics.{Given}
use Rattle.std.specs.declared.option.Option.TheVariants as G
use Rattle.places.specs.Sizes.{power_of, size_by}

-- the size that an image's words are read by, whether an opening accepts them or not: a header that says another power
-- than 16 is read as one of small chunks
abbrev pub size_said : List ℕ → Size
size_said ws = size_by (header_power ws)

abbrev pub power_read : List ℕ → ℕ
power_read ws = power_of (size_said ws)

-- the chunks of an image of so many bytes
abbrev pub chunks_read : (bytes : ℕ) → List ℕ → ℕ
chunks_read bytes ws = chunks_in (power_read ws) bytes

-- its header is right, and there are chunks of the power that it says
unfoldable pub header_taken : (bytes : ℕ) → List ℕ → Bool
header_taken bytes ws = both (is_power (header_power ws)) (header_right (chunks_read bytes ws) ws)

-- by the bit map and the words behind the count, in bit order: bit 1 is the station's, bit 2 the centre's, bit 3 the
-- power's
abbrev pub station_by : (map first : ℕ) → Given
station_by map first = pick (either (either (map == 3) (map == 7)) (either (map == 11) (map == 15))) (G.Some first) G.None

abbrev pub centre_by : (map first second : ℕ) → Given
centre_by map first second =
    pick (either (map == 5) (map == 13)) (G.Some first) (pick (either (map == 7) (map == 15)) (G.Some second) G.None)

-- of an image of so many bytes: absent too where the header is not right. Of a header that a formatting wrote these are
-- the numbers that it was told (proofs/Numbers.antt)
unfoldable pub station_of : (bytes : ℕ) → List ℕ → Given
station_of bytes ws = pick (header_taken bytes ws) (station_by (slice_index ws 0) (slice_index ws 2)) G.None

unfoldable pub centre_of : (bytes : ℕ) → List ℕ → Given
centre_of bytes ws = pick (header_taken bytes ws) (centre_by (slice_index ws 0) (slice_index ws 2) (slice_index ws 3)) G.None

-- in numbers: 1 and the number, or 0 and 0
abbrev pub ToldAs : Given → (answer number : ℕ) → Type 0
ToldAs (G.Some x) answer number = (answer ≡ 1) × (number ≡ x)
ToldAs G.None answer number = (answer ≡ 0) × (number ≡ 0)
