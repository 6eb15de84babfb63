-- The entries of a key that stand in the log, from a word on, and as words: what one call writes of them all.
-- Assumes nothing.
use Rattle.std.specs.Prelude.{◌≡◌, ℕ, ◌/◌, List, [], ◌∷◌, ◌++◌, map, length, take, drop}
use Rattle.spec.specs.Basics.{filter}
use Rattle.spec.specs.Contents.{entries_in}
use Rattle.inspect.specs.declared.history.KeyEntry.{KeyEntry}
use Rattle.inspect.specs.History.{is_from, numbered}

-- THE ENTRIES of the key that stand at or behind a word, of an image of n chunks, in order of chunk, then offset; none
-- where an entry of its log is wrong
unfoldable pub entries_from : ℕ → ℕ → List ℕ → (key from : ℕ) → List KeyEntry
entries_from p n ws key from = map (numbered key (entries_in p n ws)) (filter (is_from key from) (entries_in p n ws))

-- ## In words

abbrev pub entry_words : ℕ
entry_words = 6

abbrev pub spelt : KeyEntry → List ℕ
spelt e = e.place ∷ e.op ∷ e.version ∷ e.block ∷ e.field ∷ e.chosen ∷ []

abbrev pub spelt_all : List KeyEntry → List ℕ
spelt_all [] = []
spelt_all (e ∷ es) = spelt e ++ spelt_all es

-- of as many entries as fit whole into so many words
abbrev pub fitting : (room : ℕ) → List KeyEntry → List ℕ
fitting room es = spelt_all (take (room / entry_words) es)

-- ## The call

-- the lent words begin with those of the entries that fit, and stay as they were behind them; the answer is how many
-- entries there are, whether they fit or not
pub record EntriesListed (es : List KeyEntry) (out out' : List ℕ) (count : ℕ) : Type 0 where
  pub words : out' ≡ fitting (length out) es ++ drop (length (fitting (length out) es)) out
  pub all : count ≡ length es
