-- Where a large value goes: what the searches for a block and for a slot answer, where the bits and the staged words
-- are those of entries and items, and what holds of the answer anyway.
-- Assumes nothing.
use Rattle.std.specs.Prelude.{◌≡◌, ◌⊎◌, Bool, true, false, List, ◌++◌, ℕ, ◌+◌, ◌-◌, ◌*◌, ◌/◌, ◌%◌, ◌^◌, ◌≤◌, ◌<◌, eqb, length, get_or, Option, Some, None}
use Rattle.std.proofs.Math.Option as maybe
use Rattle.std.proofs.Math.Option.{none, some}
use Rattle.spec.specs.Basics.{pick, both, negate, filter, first, is_in, up_from}
use Rattle.spec.specs.Words.{words_of}
use Rattle.spec.specs.Places.{chunk_units, first_unit, unit_chunk, unit_word, directory_word, chunks_in}
use Rattle.spec.specs.Directory.{size_of, role_at, is_free}
use Rattle.spec.specs.Log.{Entry, words_for}
use Rattle.spec.specs.Contents.{pointers, live_blocks}
use Rattle.spec.specs.Plans.{blocks_from, InData, InFree, slot_for}
use Rattle.spec.specs.Plans as K
use Rattle.spec.specs.declared.FirstWord.{FirstWord}
use Rattle.spec.specs.declared.FirstWord.TheVariants as F
use Rattle.spec.specs.declared.Size.{Size}
use Rattle.places.specs.Sizes.{power_of}
use Rattle.codec.specs.declared.Unit.{Unit as UnitNumber}
use Rattle.buffer.specs.Bits.{has_bit}
use Rattle.batch.specs.Items.{StagedIn}
use Rattle.placing.specs.declared.blocks.Met.{Met}
use Rattle.placing.specs.declared.blocks.Slot.{Slot}
use Rattle.placing.specs.declared.blocks.Slot.TheVariants as S

-- what a first word says of the block at unit u
abbrev pub met_by : ℕ → FirstWord → Met
met_by u F.Padding = record { here = false; size = 1 }
met_by u F.Wrong = record { here = false; size = 1 }
met_by u (F.Entry op placement version field) = record { here = both (both (eqb op 1) (eqb placement 1)) (eqb field u); size = 2 + words_for placement field }

-- a staged item points to the block
abbrev pub StagedBlock : List ℕ → ℕ → ℕ → Bool → Type 0
StagedBlock buffer words u r = (items : List Entry) → StagedIn buffer words items → r ≡ is_in u (pointers items)

-- the bits are those of the entries, the staged words those of the items
pub record Says (size : Size) (buffer : List ℕ) (words : ℕ) (es items : List Entry) : Type 0 where
  pub blocks : (u : ℕ) → has_bit size buffer u ≡ is_in u (live_blocks es)
  pub staged : StagedIn buffer words items

-- the block is neither live nor staged
abbrev pub spare : List Entry → List Entry → ℕ → Bool
spare es items u = negate (is_in u (live_blocks es ++ pointers items))

abbrev pub Spare : Size → List ℕ → ℕ → ℕ → Bool → Type 0
Spare size buffer words u r = (es items : List Entry) → Says size buffer words es items → r ≡ spare es items u

-- the first block of size s in n chunks that is neither live nor staged
abbrev pub first_spare : ℕ → ℕ → List ℕ → List Entry → List Entry → ℕ → maybe.Option ℕ
first_spare p n ws es items s = first (filter (λ u. negate (is_in u (live_blocks es ++ pointers items))) (blocks_from p ws s (up_from 1 (n - 1))))

-- bit i of these words
abbrev pub bit_in : List ℕ → ℕ → ℕ
bit_in bits i = get_or bits (i / 64) 0 / 2 ^ (i % 64) % 2

-- in these bits of a chunk each block of s units is in use
pub record EachUsed (size : Size) (s : ℕ) (full : List ℕ) : Type 0 where
  pub used : (j : ℕ) → j < chunk_units (power_of size) / s → bit_in full (s * j) ≡ 1

-- the bits of chunk c are these
pub record ChunkBits (size : Size) (buffer : List ℕ) (c : ℕ) (bits : List ℕ) : Type 0 where
  pub each : (i : ℕ) → i < chunk_units (power_of size) → has_bit size buffer (first_unit (power_of size) c + i) ≡ eqb (bit_in bits i) 1

-- they are, if so told
pub record HasBits (size : Size) (buffer : List ℕ) (c : ℕ) (bits : List ℕ) (r : Bool) : Type 0 where
  pub same : r ≡ true → ChunkBits size buffer c bits

-- so many blocks of chunk c are to be looked at: those of a chunk with that directory word, or none where its bits are
-- these
abbrev pub ToLookAt : (size : Size) (ws buffer : List ℕ) (c word blocks : ℕ) (full : List ℕ) → ℕ → Type 0
ToLookAt size ws buffer c word blocks full r = (r ≡ pick (eqb (get_or ws (directory_word c) 0) word) blocks 0) ⊎ ((r ≡ 0) × ChunkBits size buffer c full)

abbrev pub unit : ℕ → UnitNumber
unit u = record { 0 = u }

abbrev pub block_by : maybe.Option ℕ → Option UnitNumber
block_by none = None
block_by (some u) = Some (unit u)

-- unit u starts s units within the image, in a data chunk of blocks of s units, below chunk n
pub record InImage (p : ℕ) (image : List ℕ) (n s u : ℕ) : Type 0 where
  pub some' : 1 ≤ s
  pub low : 1 ≤ unit_chunk p u
  pub high : unit_chunk p u < n
  pub ends : 8 * unit_word (u + s) ≤ length image
  pub size : size_of p (words_of image) (unit_chunk p u) ≡ s

pub record BlockFound (size : Size) (image : List ℕ) (count s : ℕ) (buffer : List ℕ) (words : ℕ) (r : Option UnitNumber) : Type 0 where
  pub exact : count ≤ chunks_in (power_of size) (length image) → (es items : List Entry) → Says size buffer words es items → r ≡ block_by (first_spare (power_of size) count (words_of image) es items s)
  pub anyway : (u : UnitNumber) → r ≡ Some u → InImage (power_of size) image count s u.0

abbrev pub slot_by : K.Slot → Option Slot
slot_by (InData u) = Some (S.Data (unit u))
slot_by (InFree c) = Some (S.Free c)
slot_by K.Nowhere = None

pub record SlotFound (size : Size) (image : List ℕ) (count s : ℕ) (buffer : List ℕ) (words : ℕ) (r : Option Slot) : Type 0 where
  pub exact : count ≤ chunks_in (power_of size) (length image) → (es items : List Entry) → Says size buffer words es items → r ≡ slot_by (slot_for (power_of size) count (words_of image) es items s)
  pub data' : (u : UnitNumber) → r ≡ Some (S.Data u) → InImage (power_of size) image count s u.0
  pub free : (c : ℕ) → r ≡ Some (S.Free c) → (1 ≤ c) × (c < count) × (is_free (role_at (power_of size) (words_of image) c) ≡ true)
