-- The place of the fault for which an opening refuses an image: the first of its kind.
-- Assumes nothing.
use Rattle.std.specs.Prelude.{◌≡◌, ◌⊎◌, Bool, true, List, [], ◌∷◌, ℕ, suc, ◌+◌, ◌/◌, ◌%◌, eqb, leb, ltb, length, get_or, Option as Maybe, Some, None}
use Rattle.std.proofs.Math.Option.{Option, none, some}
use Rattle.spec.specs.Basics.{pick, both, either}
use Rattle.spec.specs.Words.{words_of}
use Rattle.spec.specs.Places.{size_allowed, any_allowed, chunks_in, directory_word, word_chunk}
use Rattle.spec.specs.Header.{header_right, header_power}
use Rattle.spec.specs.declared.Size.{Size}
use Rattle.places.specs.Sizes.{power_of, size_by}
use Rattle.spec.specs.Log.{Entry}
use Rattle.spec.specs.Opening.{Opening, Refused, Accepted, opening, fine}
use Rattle.spec.specs.declared.Refusal.TheVariants as N
use Rattle.directory.specs.Tests.{directory_fault}
use Rattle.faults.specs.Tops.{first_top, at_one}
use Rattle.faults.specs.declared.Fault.{Fault}
use Rattle.faults.specs.declared.Fault.TheVariants as F
use Rattle.faults.specs.declared.FaultPlace.{FaultPlace}
use Rattle.faults.specs.Reading.{Reading, Whole, Upto, read_image}

-- ## 2: the header

-- how many fields stand behind the count, by the bit map
unfoldable pub field_count : ℕ → ℕ
field_count map = map / 2 % 2 + map / 4 % 2 + map / 8 % 2

-- what each word of a header is asked by itself: the bit map, the chunk count, the fields, the unused words
abbrev pub word_tests : (n a b c d e f g : ℕ) → List Bool
word_tests n a b c d e f g =
    both (eqb (a % 2) 1) (ltb a 16)
    ∷ eqb b n ∷ pick (leb 1 (field_count a)) true (eqb c 0) ∷ pick (leb 2 (field_count a)) true (eqb d 0) ∷ pick (leb 3 (field_count a)) true (eqb e 0) ∷ eqb f 0 ∷ eqb g 0 ∷ []

-- the word that says a chunk power, the bit map where none does
unfoldable pub power_word : ℕ → ℕ
power_word map = pick (eqb map 9) 2 (pick (either (eqb map 11) (eqb map 13)) 3 (pick (eqb map 15) 4 0))

-- the number of the first test that fails; past the last where none does
abbrev pub failing : List Bool → ℕ
failing [] = 0
failing (b ∷ bs) = pick b (suc (failing bs)) 0

-- the first word that is wrong by itself; word 7, of the sum, where none is
unfoldable pub header_fault : ℕ → List ℕ → ℕ
header_fault n ws = failing (word_tests n (get_or ws 0 0) (get_or ws 1 0) (get_or ws 2 0) (get_or ws 3 0) (get_or ws 4 0) (get_or ws 5 0) (get_or ws 6 0))

-- ## 5 and 6: top entries (`faults.Tops`)

abbrev pub tops_fault : Option Entry → Maybe Fault
tops_fault none = None
tops_fault (some e) = Some (F.Tops e.at)

abbrev pub block_fault : Option Entry → Option Entry → Maybe Fault
block_fault none f = tops_fault f
block_fault (some e) f = Some (F.Block e.at)

-- ## The fault

-- 4 to 6, by the log as far as it can be read
abbrev pub log_fault : ℕ → ℕ → List ℕ → Reading → Maybe Fault
log_fault p n ws (Whole es) = block_fault (first_top es (fine p n ws)) (first_top es (at_one es))
log_fault p n ws (Upto es w) = Some (F.Entry w (length es))

-- 3, or what is found behind it
abbrev pub directory_or : Maybe ℕ → Maybe Fault → Maybe Fault
directory_or None f = f
directory_or (Some c) f = Some (F.Directory c (directory_word c))

abbrev pub chunks_fault : ℕ → ℕ → List ℕ → Maybe Fault
chunks_fault p n ws = pick (header_right n ws) (directory_or (directory_fault p n ws) (log_fault p n ws (read_image p n ws))) (Some (F.Header (header_fault n ws)))

-- by the power that the header says: where there is no such, or the length is not one of such chunks, the word that
-- says it
abbrev pub power_fault : ℕ → ℕ → List ℕ → Maybe Fault
power_fault p bytes ws = pick (size_allowed p bytes) (chunks_fault p (chunks_in p bytes) ws) (Some (F.Header (power_word (get_or ws 0 0))))

-- of an image of so many bytes whose words are ws
unfoldable pub fault_of : ℕ → List ℕ → Maybe Fault
fault_of bytes ws = pick (any_allowed bytes) (power_fault (header_power ws) bytes ws) (Some F.Length)

-- by the two places that the pass finds
abbrev pub spot_fault : (block tops : Maybe ℕ) → Maybe Fault
spot_fault (Some b) t = Some (F.Block b)
spot_fault None (Some t) = Some (F.Tops t)
spot_fault None None = None

-- ## What an opening answers

-- with a fault its refusal; without one the image is accepted, or has more keys than the table holds
abbrev pub Answers : Maybe Fault → Opening → Type 0
Answers None o = (o ≡ Refused N.TableFull) ⊎ ((es : List Entry) × (o ≡ Accepted es))
Answers (Some F.Length) o = o ≡ Refused N.ImageLength
Answers (Some (F.Header w)) o = o ≡ Refused N.NotOpen
Answers (Some (F.Directory c w)) o = o ≡ Refused N.DirectoryWrong
Answers (Some (F.Entry w k)) o = o ≡ Refused N.EntryWrong
Answers (Some (F.Block w)) o = o ≡ Refused N.BlockWrong
Answers (Some (F.Tops w)) o = o ≡ Refused N.TopsDisagree

-- THE CALL: the fault, and that it is why an opening refuses the image, whatever the key table's length
pub record Located (bytes : List ℕ) (r : Maybe Fault) : Type 0 where
  pub place : r ≡ fault_of (length bytes) (words_of bytes)
  pub refuses : (table : ℕ) → Answers r (opening (length bytes) (words_of bytes) table)

-- ## In numbers

-- the refusal's number, the chunk of the word, the word, and how many entries stand before it
abbrev pub place_at : (size : Size) → (refusal word before : ℕ) → FaultPlace
place_at size refusal word before = record { refusal = refusal; chunk = word_chunk (power_of size) word; word = word; before = before }

abbrev pub numbers_by : (size : Size) → Fault → FaultPlace
numbers_by size F.Length = place_at size 1 0 0
numbers_by size (F.Header w) = place_at size 2 w 0
numbers_by size (F.Directory c w) = record { refusal = 3; chunk = c; word = w; before = 0 }
numbers_by size (F.Entry w k) = place_at size 4 w k
numbers_by size (F.Block w) = place_at size 5 w 0
numbers_by size (F.Tops w) = place_at size 6 w 0

abbrev pub numbers_of : (size : Size) → Maybe Fault → FaultPlace
numbers_of size None = place_at size 0 0 0
numbers_of size (Some f) = numbers_by size f

pub record Told (bytes : List ℕ) (r : FaultPlace) : Type 0 where
  pub fault : Maybe Fault
  pub located : Located bytes fault
  pub told : r ≡ numbers_of (size_by (header_power (words_of bytes))) fault
