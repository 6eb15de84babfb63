-- Which images are accepted, and the support: the words of an image that mean something.
-- Assumes nothing.
use Rattle.std.specs.Prelude.{◌≡◌, ◌⊎◌, true, List, ℕ, ◌+◌, ◌*◌, ◌≤◌, ◌<◌, length, get_or}
use Rattle.spec.specs.Places.{base, unit_chunk, unit_word, directory_word, max_chunks}
use Rattle.spec.specs.Header.{header_right, header_power}
use Rattle.spec.specs.Directory.{role_of, lines_in, directory_right, lines_of}
use Rattle.spec.specs.Log.{Entry, Entries, image_entries}
use Rattle.spec.specs.Blocks.{pointed, block_words}
use Rattle.spec.specs.Opening.{fine}
use Rattle.theory_log.specs.Contents.{Agree, Top}

-- a directory word that is right, and counts no lines: that of a free or a data chunk
abbrev pub Calm : ℕ → ℕ → ℕ → ℕ → Type 0
Calm p n c w = (directory_right p n c w ≡ true) × (lines_in (role_of p w) ≡ 0)

-- The words that an entry's value needs beside the entry: its chunk's directory word, the length, the value's words.
-- The rest of the block may hold anything, settled or not.
abbrev pub Needs : ℕ → List ℕ → Entry → ℕ → Type 0
Needs p ws e k =
    (pointed e ≡ true) × ((k ≡ directory_word (unit_chunk p e.field)) ⊎ ((unit_word e.field ≤ k) × (k < unit_word e.field + 1 + block_words ws e.field)))

-- ws is an image of n chunks of 2^p bytes, as its header says, whose entries are es, and opening takes it (but for the
-- table, refusal 7)
pub record Ok (p n : ℕ) (ws : List ℕ) (es : List Entry) : Type 0 where
  pub least : 4 ≤ n
  pub most : n ≤ max_chunks
  pub long : length ws ≡ base p n
  pub header : header_right n ws ≡ true
  pub power : header_power ws ≡ p
  pub dirs : (c : ℕ) → c < max_chunks → directory_right p n c (get_or ws (directory_word c) 0) ≡ true
  pub parsed : image_entries p n ws ≡ Entries es
  pub blocks : (e : Entry) → Top es e → fine p n ws e ≡ true
  pub agree : Agree es
  pub apart : (e f : Entry) → Top es e → Top es f → pointed e ≡ true → pointed f ≡ true → e.field ≡ f.field → e.key ≡ f.key

-- The support: the header line, the directory words of log chunks, the committed lines, and what each top entry's value
-- needs.
abbrev pub LogDirectory : ℕ → ℕ → List ℕ → ℕ → Type 0
LogDirectory p n ws k = (c : ℕ) × (1 ≤ c) × (c < n) × (1 ≤ lines_of p ws c) × (k ≡ directory_word c)

abbrev pub LogLine : ℕ → ℕ → List ℕ → ℕ → Type 0
LogLine p n ws k = (c : ℕ) × (1 ≤ c) × (c < n) × (base p c ≤ k) × (k < base p c + 8 * lines_of p ws c)

abbrev pub Live : ℕ → List ℕ → List Entry → ℕ → Type 0
Live p ws es k = (e : Entry) × Top es e × Needs p ws e k

abbrev pub Support : ℕ → ℕ → List ℕ → List Entry → ℕ → Type 0
Support p n ws es k = (k < 8) ⊎ (LogDirectory p n ws k ⊎ (LogLine p n ws k ⊎ Live p ws es k))

-- vs says what ws says: the same on the support of ws, and free or data in the directory elsewhere
pub record Framed (p n : ℕ) (ws : List ℕ) (es : List Entry) (vs : List ℕ) : Type 0 where
  pub long : length vs ≡ length ws
  pub same : (k : ℕ) → Support p n ws es k → get_or vs k 0 ≡ get_or ws k 0
  pub calm : (c : ℕ) → c < max_chunks → lines_of p ws c ≡ 0 → Calm p n c (get_or vs (directory_word c) 0)
