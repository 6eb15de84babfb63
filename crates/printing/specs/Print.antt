-- What `list` and `sheet` print of an image: `keys N` and a line for each present key by rising key, or pages of a
-- heading and up to 50 rows; on a refusal `refused N`. THE LIST has lines, THE SHEET has pages.
-- Assumes nothing.
use Rattle.std.specs.Prelude.{◌≡◌, List, [], ◌∷◌, ◌++◌, ℕ, suc, ◌+◌, ◌*◌, ◌≤◌, length, Ok, Err}
use Rattle.std.proofs.Math.Option.{none}
use Rattle.spec.specs.Words.{words_of}
use Rattle.spec.specs.Log.{Entry}
use Rattle.spec.specs.Contents.{capacity}
use Rattle.spec.specs.Opening.{Opening, Refused, Accepted, opening}
use Rattle.spec.specs.Machine.{gate}
use Rattle.buffer.specs.Areas.{buffer_words}
use Rattle.session.specs.declared.Control.{Control}
use Rattle.session.specs.declared.Setup.{Setup}
use Rattle.session.specs.State.{power_in, state_at}
use Rattle.session.specs.Fits.{Fits}
use Rattle.lookup.specs.Look.{session_of}
use Rattle.lookup.specs.Listing.{Listed, present_keys, listed_of}
use Rattle.lookup.specs.Contract.{entries_of}
use Rattle.text.specs.Text.{Writes}
use Rattle.printing.specs.declared.Layout.{Layout}
use Rattle.printing.specs.Lines.{refused_text, head_text, entry_text, entry_most}

-- the key that comes behind i others
abbrev pub listed_text : Layout → ℕ → ℕ → Listed → List ℕ
listed_text layout i key (Err n) = []
listed_text layout i key (Ok l) = entry_text layout i key l

-- the keys of a list, behind i others
abbrev pub lines_text : Layout → List ℕ → List Entry → ℕ → List ℕ → List ℕ
lines_text layout ws es i [] = []
lines_text layout ws es i (k ∷ ks) = listed_text layout i k (listed_of ws es k) ++ lines_text layout ws es (suc i) ks

-- THE TEXT of a register, and of an image of so many bytes with a table of so many words
abbrev pub register_text : Layout → List ℕ → List Entry → List ℕ
register_text layout ws es = head_text layout (length (present_keys ws es)) ++ lines_text layout ws es 0 (present_keys ws es)

abbrev pub opened_text : Layout → List ℕ → Opening → List ℕ
opened_text layout ws (Refused n) = refused_text n
opened_text layout ws (Accepted es) = register_text layout ws es

unfoldable pub image_text : Layout → List ℕ → ℕ → List ℕ
image_text layout bytes words = opened_text layout (words_of bytes) (opening (length bytes) (words_of bytes) words)

-- the most bytes of a text with so many keys
abbrev pub most_text : Layout → ℕ → ℕ
most_text layout keys = 40 + entry_most layout * keys

-- THE PROGRAMS read an image of so many bytes at most, of a longer one a byte more, and open it with a table of so many
-- words
abbrev pub read_most : ℕ
read_most = 65536

abbrev pub table_words : ℕ
table_words = 8192

-- room for the sheet of as many keys as such a table holds, whatever the numbers
abbrev pub text_bytes : ℕ
text_bytes = 210984

-- ## What the functions write

-- behind the gate, on memory as our calls left it
abbrev pub Opened : Control → Setup → List ℕ → List ℕ → Type 0
Opened c k bytes table = (b : List ℕ) × (gate (state_at c k b) (length bytes) (length table) ≡ none) × Fits (session_of c k b) (words_of bytes) table

pub record Key (n : ℕ) (c : Control) (k : Setup) (key : ℕ) (layout : Layout) (row : ℕ) (bytes table out out' : List ℕ) : Type 0 where
  pub line : Opened c k bytes table → Writes n out out' (listed_text layout row key (listed_of (words_of bytes) (entries_of (power_in k) bytes) key))

pub record Keys (n : ℕ) (c : Control) (k : Setup) (bytes table keys : List ℕ) (layout : Layout) (out out' : List ℕ) : Type 0 where
  pub lines : Opened c k bytes table → Writes n out out' (lines_text layout (words_of bytes) (entries_of (power_in k) bytes) 0 keys)

pub record Register (n : ℕ) (c : Control) (k : Setup) (layout : Layout) (bytes table keys out out' : List ℕ) : Type 0 where
  pub prints : Opened c k bytes table → length (present_keys (words_of bytes) (entries_of (power_in k) bytes)) ≤ length keys → Writes n out out' (register_text layout (words_of bytes) (entries_of (power_in k) bytes))

-- with room for as many keys as the table holds, the text goes on by the image's; the buffer is the record's
pub record Image (n : ℕ) (layout : Layout) (bytes table buffer keys out out' : List ℕ) : Type 0 where
  pub prints : length buffer ≡ buffer_words → capacity (length table) ≤ length keys → length out + most_text layout (capacity (length table)) ≤ n → out' ≡ out ++ image_text layout bytes (length table)
