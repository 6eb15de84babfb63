-- Staging a large value: the block that it may take, and what the staging leaves.
-- Assumes nothing.
use Rattle.std.specs.Prelude.{◌≡◌, ◌⊎◌, true, List, [], ℕ, ◌+◌, ◌*◌, ◌/◌, ◌%◌, ◌^◌, ◌≤◌, ◌<◌, eqb, ltb, length, get_or}
use Rattle.spec.specs.Basics.{pick}
use Rattle.spec.specs.Places.{chunk_units, unit_chunk, unit_in, unit_word, directory_word}
use Rattle.spec.specs.Medium.{Medium, cell_at}
use Rattle.spec.specs.Directory.{size_of}
use Rattle.spec.specs.Log.{Entry}
use Rattle.spec.specs.Blocks.{pointed}
use Rattle.spec.specs.Contents.{Held, contents_by, meaning}
use Rattle.spec.specs.Opening.{fine}
use Rattle.theory_log.specs.Contents.{Top}
use Rattle.theory_crash.specs.Accepted.{Needs}
use Rattle.theory_crash.specs.Rest.{AtRest, Flushed}

-- unit u starts a block of s units that no top put points to
pub record Slot (p n : ℕ) (ws : List ℕ) (es : List Entry) (u s : ℕ) : Type 0 where
  pub low : 1 ≤ unit_chunk p u
  pub high : unit_chunk p u < n
  pub size : size_of p ws (unit_chunk p u) ≡ s
  pub some' : 1 ≤ s
  pub ends : unit_in p u + s ≤ chunk_units p
  pub aligned : unit_in p u % s ≡ 0
  pub dead : (e : Entry) → Top es e → pointed e ≡ true → e.field ≡ u → ⊥

-- the words of a block: the value's length, then the value, the last word filled
pub record BlockWords (s : ℕ) (words : List ℕ) : Type 0 where
  pub large : 257 ≤ get_or words 0 0
  pub room : get_or words 0 0 + 8 ≤ 256 * s
  pub count : length words ≡ 1 + (get_or words 0 0 + 7) / 8
  pub fill : pick (eqb (get_or words 0 0 % 8) 0) true (ltb (get_or words ((get_or words 0 0 + 7) / 8) 0) (256 ^ (get_or words 0 0 % 8))) ≡ true

-- ws, m: before; afterwards w is the directory word of the block's chunk, the block holds the words, flushed, and every
-- other word is as it was, flushed if it was
pub record Stored (p n : ℕ) (es : List Entry) (C : ℕ → Held) (ws : List ℕ) (m : Medium) (u w : ℕ) (words : List ℕ) (m' : Medium) : Type 0 where
  pub image : List ℕ
  pub rests : AtRest p n image es m'
  pub flushed : Flushed p n m'
  pub holds : (k : ℕ) → contents_by (meaning image) es k ≡ C k
  pub word : get_or image (directory_word (unit_chunk p u)) 0 ≡ w
  pub block : (j : ℕ) → j < length words → (get_or image (unit_word u + j) 0 ≡ get_or words j 0) × ((cell_at m' (unit_word u + j)).newer ≡ [])
  pub others : (k : ℕ) → (k ≡ directory_word (unit_chunk p u) → ⊥) → (k < unit_word u) ⊎ (unit_word u + length words ≤ k)
      → (get_or image k 0 ≡ get_or ws k 0) × ((cell_at m k).newer ≡ [] → (cell_at m' k).newer ≡ [])

-- a staged entry whose value is ready for a commit: its block stands, and the words that it needs were flushed since
-- they were stored
abbrev pub Prepared : ℕ → ℕ → List ℕ → Medium → Entry → Type 0
Prepared p n ws m e = (fine p n ws e ≡ true) × ((k : ℕ) → Needs p ws e k → (cell_at m k).newer ≡ [])
