-- What the listing calls answer and leave, for any memory and on memory as our calls left it.
-- Assumes nothing.
use Rattle.std.specs.Prelude.{◌≡◌, List, ℕ, ◌/◌, ◌≤◌, length, get_or, take, Result, Ok, Err}
use Rattle.std.proofs.Math.Option.{none, some}
use Rattle.spec.specs.Words.{words_of}
use Rattle.spec.specs.Places.{chunks_in}
use Rattle.spec.specs.Log.{Entry}
use Rattle.spec.specs.Contents.{entries_in}
use Rattle.spec.specs.Machine.{state_power, read_gate, read_words}
use Rattle.session.specs.declared.Control.{Control}
use Rattle.session.specs.declared.Setup.{Setup}
use Rattle.spec.specs.declared.Size.{Size}
use Rattle.spec.specs.declared.Refusal.{Refusal}
use Rattle.spec.specs.declared.Refusal.TheVariants as N
use Rattle.index.specs.Index.{slots, Probed}
use Rattle.order.specs.Order.{in_order}
use Rattle.session.specs.State.{state_at}
use Rattle.session.specs.Fits.{Fits}
use Rattle.lookup.specs.Look.{session_of}
use Rattle.lookup.specs.Listing.{Listed, present_keys, listed_of, slot_keys}

-- `out` gets the keys ks, which rise, as far as it reaches; `count` is how many there are
pub record Lists (ks out out' : List ℕ) (count : ℕ) : Type 0 where
  pub all : count ≡ length ks
  pub rising : take count out' ≡ take (length out) ks

-- for any memory; and of a table that has each key once
pub record Gathering (size : Size) (ws table out out' : List ℕ) (count : ℕ) : Type 0 where
  pub sized : length out' ≡ length out
  pub most : count ≤ length table / 2
  pub behind : (i : ℕ) → count ≤ i → get_or out' i 0 ≡ get_or out i 0
  pub lists : Probed table → Lists (in_order (slot_keys size ws table (slots table))) out out' count

-- THE CALLS, whatever the record's buffer holds: record, image and table stay. A refusal at look-up's gate is answered,
-- and `out` stays; behind it, on memory as our calls left it, the answer is that of the register that look-up reads.
-- The words of `out` behind the keys stay.

-- the words that look-up reads; and the entries of an image with this chunk power, and of those words
abbrev pub words_read : Control → Setup → List ℕ → List ℕ → List ℕ
words_read c k b bytes = read_words (state_at c k b) (words_of bytes)

abbrev pub entries_of : (p : ℕ) → List ℕ → List Entry
entries_of p bytes = entries_in p (chunks_in p (length bytes)) (words_of bytes)

abbrev pub entries_read : Control → Setup → List ℕ → List ℕ → List Entry
entries_read c k b bytes = entries_in (state_power (state_at c k b)) (chunks_in (state_power (state_at c k b)) (length bytes)) (words_read c k b bytes)

abbrev pub KeysBehind : Control → Setup → (bytes table out out' : List ℕ) → Result ℕ Refusal → Type 0
KeysBehind c k bytes table out out' (Err n) = ((b : List ℕ) → read_gate (state_at c k b) (length bytes) (length table) ≡ some n) × (out' ≡ out)
KeysBehind c k bytes table out out' (Ok count) =
    ((b : List ℕ) → read_gate (state_at c k b) (length bytes) (length table) ≡ none)
    × (count ≤ length table / 2) × ((i : ℕ) → count ≤ i → get_or out' i 0 ≡ get_or out i 0)
    × ((b : List ℕ) → Fits (session_of c k b) (words_of bytes) table → Lists (present_keys (words_read c k b bytes) (entries_read c k b bytes)) out out' count)

pub record ListingKeys (c : Control) (k : Setup) (bytes table out out' : List ℕ) (r : Result ℕ Refusal) : Type 0 where
  pub sized : length out' ≡ length out
  pub answered : KeysBehind c k bytes table out out' r

-- 2, 1, 8 by look-up's gate; and else what is listed of the key, or 11
abbrev pub AbsentOr : Listed → Type 0
AbsentOr (Ok x) = Unit {0}
AbsentOr (Err n) = n ≡ N.KeyAbsent

pub record ListingKey (c : Control) (k : Setup) (key : ℕ) (bytes table : List ℕ) (r : Listed) : Type 0 where
  pub gated : (b : List ℕ) (n : Refusal) → read_gate (state_at c k b) (length bytes) (length table) ≡ some n → r ≡ Err n
  pub behind : (b : List ℕ) → read_gate (state_at c k b) (length bytes) (length table) ≡ none → AbsentOr r
  pub listed : (b : List ℕ) → read_gate (state_at c k b) (length bytes) (length table) ≡ none → Fits (session_of c k b) (words_of bytes) table
      → r ≡ listed_of (words_read c k b bytes) (entries_read c k b bytes) key
