-- What an opening's passes over the top entries tell of the entries of an image.
-- Assumes nothing.
use Rattle.std.specs.Prelude.{◌≡◌, Bool, true, false, List, [], ◌∷◌, ◌++◌, ℕ, ◌≤◌, ◌<◌, length}
use Rattle.std.proofs.Math.Option.{some}
use Rattle.spec.specs.declared.Size.{Size}
use Rattle.spec.specs.Basics.{both, is_in}
use Rattle.spec.specs.Places.{max_chunks, base}
use Rattle.spec.specs.Log.{Entry, Entries, image_entries}
use Rattle.spec.specs.Contents.{chosen, agree, live_blocks}
use Rattle.spec.specs.Opening.{blocks_test, agree_test, apart_test}
use Rattle.theory_log.specs.Contents.{Mem, Apart}
use Rattle.places.specs.Sizes.{power_of, unit_count}
use Rattle.buffer.specs.Bits.{has_bit, WordsKept}
use Rattle.logs.specs.declared.Best.{Best}
use Rattle.logs.specs.Best.{best_of}
use Rattle.logs.specs.Stands.{StandsIn}
use Rattle.logs.specs.declared.Entry as H
use Rattle.volatile.specs.Known.{several, Indexed}
use Rattle.volatile.specs.Check.{Marks, CheckInv}
use Rattle.volatile.specs.Plain.{Single, Direct}
use Rattle.consistency.specs.Classes.{within, asked, class_in}
use Rattle.consistency.specs.Heads.{entry_of, points}
use Rattle.consistency.specs.declared.Checked.{Checked}

-- An image of n whole chunks has these entries, and if `fits` the table is theirs.
pub record Listed (size : Size) (n : ℕ) (ws table : List ℕ) (fits : Bool) (es : List Entry) : Type 0 where
  pub few : n ≤ max_chunks
  pub whole : base (power_of size) n ≤ length ws
  pub entries : image_entries (power_of size) n ws ≡ Entries es
  pub keys : ℕ
  pub indexed : fits ≡ true → Indexed size table keys es

-- The same for a range of classes: if `fits` the table is that of its entries.
pub record ListedIn (size : Size) (n : ℕ) (ws table : List ℕ) (fits : Bool) (low high : ℕ) (es : List Entry) : Type 0 where
  pub few : n ≤ max_chunks
  pub entries : image_entries (power_of size) n ws ≡ Entries es
  pub keys : ℕ
  pub indexed : fits ≡ true → Indexed size table keys (class_in low high es)

-- whether the entry with these parts agrees with the one that stands at a place
abbrev pub AgreesWith : List ℕ → H.Entry → ℕ → Bool → Type 0
AgreesWith ws h place r = (words : ℕ) (f : Entry) → StandsIn ws (entry_of ws h words) → StandsIn ws f → f.at ≡ place → r ≡ agree (entry_of ws h words) f

-- the chosen top entry of a key
abbrev pub TopIs : (size : Size) → ℕ → List ℕ → List ℕ → Bool → ℕ → Best → Type 0
TopIs size n ws table fits key r = (low high : ℕ) (es : List Entry) → ListedIn size n ws table fits low high es → within low high key ≡ true → r ≡ best_of (chosen key es)

-- whether top entries agree, with one more, where they did `so`; the chosen entry of its key stands at `place`
pub record AgreedIs (ws : List ℕ) (so : Bool) (h : H.Entry) (place : ℕ) (r : Bool) : Type 0 where
  pub own : h.place ≡ place → r ≡ so
  pub before : so ≡ false → r ≡ false
  pub other : (h.place ≡ place → ⊥) → so ≡ true → AgreesWith ws h place r

-- every entry of xs is one of es
abbrev pub Part : List Entry → List Entry → Type 0
Part xs es = (e : Entry) → Mem e xs → Mem e es

-- the marks with one more top entry, whose block has a bit; the chosen entry of its key stands at `place`
pub record MarkedIs (size : Size) (apart : Bool) (h : H.Entry) (place : ℕ) (before after : List ℕ) (r : Bool) : Type 0 where
  pub kept : WordsKept before before → WordsKept before after
  pub marks : (ws : List ℕ) (es xs : List Entry) (words : ℕ) (f : Entry) → Apart es → Mem (entry_of ws h words) es → Part xs es → (Mem (entry_of ws h words) xs → ⊥)
      → chosen h.key es ≡ some f → f.at ≡ place → (points h.op h.placement ≡ true → h.field < unit_count size)
      → Marks es xs (has_bit size before) apart → Marks es (xs ++ entry_of ws h words ∷ []) (has_bit size after) r

-- the tests with one more entry, if its key's class is within the range, after none failed
pub record VisitedIs (size : Size) (n : ℕ) (ws table : List ℕ) (fits : Bool) (low high : ℕ) (s : Checked) (h : H.Entry) (before after : List ℕ) (r : Checked) : Type 0 where
  pub kept : WordsKept before before → WordsKept before after
  pub right : (es xs : List Entry) (words : ℕ) → ListedIn size n ws table fits low high es → Mem (entry_of ws h words) es → Part xs es
      → (within low high h.key ≡ true → Mem (entry_of ws h words) xs → ⊥) → CheckInv (power_of size) n ws es xs (has_bit size before) true s.agreeing s.apart → r.blocks ≡ true
      → CheckInv (power_of size) n ws es (xs ++ class_in low high (entry_of ws h words ∷ [])) (has_bit size after) true r.agreeing r.apart
  pub wrong : (es : List Entry) (words : ℕ) → ListedIn size n ws table fits low high es → Mem (entry_of ws h words) es → s.blocks ≡ true → r.blocks ≡ false → blocks_test (power_of size) n ws es ≡ false

-- the entries xs are checked, and a range of classes is to be: none of xs is in it
pub record Ahead (size : Size) (n : ℕ) (ws table : List ℕ) (fits : Bool) (low high : ℕ) (es xs : List Entry) : Type 0 where
  pub listed : ListedIn size n ws table fits low high es
  pub inside : Part xs es
  pub others : (e : Entry) → Mem e xs → within low high e.key ≡ false

-- every key of the range that is not asked for has one top entry at most
abbrev pub Noted : Bool → List ℕ → (low high : ℕ) → List Entry → Type 0
Noted single marks low high es = (k : ℕ) → within low high k ≡ true → asked single marks low high k ≡ false → several k es ≡ 0

-- A pass for a range of classes: none of its blocks is wrong, and then the tests are those of its entries too.
pub record SweptAs (size : Size) (n : ℕ) (ws table : List ℕ) (fits single : Bool) (marks : List ℕ) (low high : ℕ) (so : Checked) (before after : List ℕ) (r : Checked) : Type 0 where
  pub kept : WordsKept before before → WordsKept before after
  pub right : (es xs : List Entry) → Ahead size n ws table fits low high es xs → Noted single marks low high es → CheckInv (power_of size) n ws es xs (has_bit size before) true so.agreeing so.apart
      → r.blocks ≡ true → CheckInv (power_of size) n ws es (xs ++ class_in low high es) (has_bit size after) true r.agreeing r.apart
  pub wrong : (es xs : List Entry) → Ahead size n ws table fits low high es xs → Noted single marks low high es → so.blocks ≡ true → CheckInv (power_of size) n ws es xs (has_bit size before) true so.agreeing so.apart
      → r.blocks ≡ false → blocks_test (power_of size) n ws es ≡ false

-- the same, whatever the marks; `single` says that each key has a single top entry
pub record ClassChecked (size : Size) (n : ℕ) (ws table : List ℕ) (fits single : Bool) (low high : ℕ) (so : Checked) (before after : List ℕ) (r : Checked) : Type 0 where
  pub kept : WordsKept before before → WordsKept before after
  pub right : (es xs : List Entry) → Ahead size n ws table fits low high es xs → (single ≡ true → Single es) → CheckInv (power_of size) n ws es xs (has_bit size before) true so.agreeing so.apart
      → r.blocks ≡ true → CheckInv (power_of size) n ws es (xs ++ class_in low high es) (has_bit size after) true r.agreeing r.apart
  pub wrong : (es xs : List Entry) → Ahead size n ws table fits low high es xs → (single ≡ true → Single es) → so.blocks ≡ true → CheckInv (power_of size) n ws es xs (has_bit size before) true so.agreeing so.apart
      → r.blocks ≡ false → blocks_test (power_of size) n ws es ≡ false

-- THE TESTS: refusal 5, where it does not hold refusal 6, and where the top entries agree the blocks in use as bits
pub record Tested (size : Size) (n : ℕ) (ws : List ℕ) (es : List Entry) (after : List ℕ) (r : Checked) : Type 0 where
  pub blocks : r.blocks ≡ blocks_test (power_of size) n ws es
  pub tops : r.blocks ≡ true → both r.agreeing r.apart ≡ both (agree_test es) (apart_test es)
  pub bits : r.blocks ≡ true → r.agreeing ≡ true → (u : ℕ) → has_bit size after u ≡ is_in u (live_blocks es)

-- all classes, from no bit on
pub record AllChecked (size : Size) (n : ℕ) (ws : List ℕ) (before after : List ℕ) (r : Checked) : Type 0 where
  pub kept : WordsKept before before → WordsKept before after
  pub tested : (es : List Entry) → n ≤ max_chunks → image_entries (power_of size) n ws ≡ Entries es → ((u : ℕ) → has_bit size before u ≡ false) → Tested size n ws es after r

-- with the keys in the table or not; no pass where each key is known to have a single top entry and each value to be
-- direct
pub record Examined (size : Size) (n : ℕ) (ws table : List ℕ) (fits single direct : Bool) (before after : List ℕ) (r : Checked) : Type 0 where
  pub kept : WordsKept before after
  pub tested : (es : List Entry) → Listed size n ws table fits es → (single ≡ true → Single es) → (direct ≡ true → Direct es) → Tested size n ws es after r
