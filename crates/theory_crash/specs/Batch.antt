-- What may be committed: a batch of entries, the place that it gets, and its effect on the contents.
-- Assumes nothing.
use Rattle.std.specs.Prelude.{◌≡◌, ◌⊎◌, true, List, ◌++◌, ℕ, ◌+◌, ◌*◌, ◌≤◌, ◌<◌, length, replicate}
use Rattle.spec.specs.Places.{base, chunk_lines}
use Rattle.spec.specs.Directory.{lines_of, size_of}
use Rattle.spec.specs.Log.{Entry, encode_all, moved, placed}
use Rattle.spec.specs.Blocks.{pointed}
use Rattle.spec.specs.Contents.{Held, contents_by}
use Rattle.spec.specs.Opening.{fine}
use Rattle.theory_log.specs.Batch.{AllRight}
use Rattle.theory_log.specs.Contents.{Mem, Agree, Top}

-- the entries' words, and z words of padding
abbrev pub entry_words : List Entry → ℕ → List ℕ
entry_words fs z = encode_all fs ++ replicate z 0

-- what a batch among the entries es does to the contents, wherever it comes to stand in the list
pub record Effect (es batch : List Entry) (E : (Entry → Held) → (ℕ → Held) → ℕ → Held) : Type 0 where
  pub agrees : (xs ys : List Entry) → es ≡ xs ++ ys → Agree es → Agree (xs ++ (batch ++ ys))
  pub gives : (mean : Entry → Held) → ((a : ℕ) (e : Entry) → mean (moved a e) ≡ mean e) → (xs ys : List Entry) → es ≡ xs ++ ys → Agree es
      → (k : ℕ) → contents_by mean (xs ++ (batch ++ ys)) k ≡ E mean (contents_by mean es) k
  pub extends : (mean mean' : Entry → Held) (c c' : ℕ → Held) → ((e : Entry) → Mem e batch → mean' e ≡ mean e) → ((k : ℕ) → c' k ≡ c k) → (k : ℕ) → E mean' c' k ≡ E mean c k

-- b lines have space behind the committed lines of chunk d, which is a log chunk or free
pub record Place (p n d b : ℕ) (ws : List ℕ) : Type 0 where
  pub low : 1 ≤ d
  pub high : d < n
  pub no-data : size_of p ws d ≡ 0
  pub fit : lines_of p ws d + b ≤ chunk_lines p

-- fs, padded with z words to b lines, may be committed behind the l committed lines of chunk d of the image ws:
-- chunk d is a log chunk, or free with l = 0; the blocks that fs point to stand, and are nobody else's
pub record Batch (p n d l b z : ℕ) (ws : List ℕ) (es fs : List Entry) (E : (Entry → Held) → (ℕ → Held) → ℕ → Held) : Type 0 where
  pub low : 1 ≤ d
  pub high : d < n
  pub lines : lines_of p ws d ≡ l
  pub no-data : size_of p ws d ≡ 0
  pub some' : 1 ≤ b
  pub fit : l + b ≤ chunk_lines p
  pub size : length (entry_words fs z) ≡ 8 * b
  pub right : AllRight fs
  pub effect : Effect es (placed (base p d + 8 * l) fs) E
  pub staged : (e : Entry) → Mem e (placed (base p d + 8 * l) fs) → fine p n ws e ≡ true
  pub own : (e f : Entry) → Mem e (placed (base p d + 8 * l) fs) → Mem f (placed (base p d + 8 * l) fs) ⊎ Top es f → pointed e ≡ true → pointed f ≡ true → e.field ≡ f.field → e.key ≡ f.key
