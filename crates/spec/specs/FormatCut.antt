-- A power cut in a formatting: it leaves what a cut before it might have left, or no register, or an empty one; never a
-- part of an old register and a part of a new one.
-- Assumes nothing.
use Rattle.std.specs.Prelude.{◌≡◌, ◌⊎◌, Bool, List, [], ◌∷◌, ℕ, ◌≤◌, length}
use Rattle.spec.specs.Words.{words_of, AreBytes}
use Rattle.spec.specs.Medium.{Medium, cut, latest, CanCutTo}
use Rattle.spec.specs.Opening.{opening}
use Rattle.spec.specs.Machine.{Format, Open, State, opened}
use Rattle.spec.specs.Book.{Book, nothing, note_open}
use Rattle.spec.specs.Contract.{Called}
use Rattle.spec.specs.History.{Do, Cut, World, Faithful, Stepped, Shows}
use Rattle.spec.specs.Basics.{Given}
use Rattle.spec.specs.declared.Refusal.TheVariants as N
use Rattle.spec.specs.declared.Report.{Report}
use Rattle.spec.specs.declared.Report.TheVariants as R

module _ {S : Type 0} (Proper : S → Type 0) (state_of : S → State) (Fits : S → List ℕ → List ℕ → Type 0) where
  -- The image that the cut leaves, and the first opening of it.
  --   Either a cut just before the formatting's begin might have left this very image: then the opening answers as it
  --   would have then (demand 3 says what, where the formatting was begun on memory as our calls left it);
  --   or the opening answers 2;
  --   or it succeeds, however small the table, and look-up says 11 for every key.
  abbrev pub Old : Medium → List ℕ → List ℕ → Report → Type 0
  Old m image table r = CanCutTo m (words_of image) × (r ≡ opened (opening (length image) (words_of image) (length table)))

  abbrev pub Empty : S → List ℕ → List ℕ → Report → Type 0
  Empty s image table r = (r ≡ R.Opened) × Shows Proper state_of Fits s image table nothing

  -- A formatting begun on any medium m, unfenced words included; any number of its steps, its end and idle ones
  -- included; a cut with any picks; an opening with any record and table.
  -- R43, R81
  abbrev pub FormatCut : Type 0
  FormatCut =
      (m m' : Medium) (s s₀ s₁ : S) (image image₁ table table₀ table₁ : List ℕ) (p : ℕ) (station centre : Given) (a : ℕ) (rs : List Report)
      → words_of image ≡ latest m → Called Proper state_of Fits (Format p station centre) s s₀ image image table table₀ (R.Begun a)
      → Stepped Proper state_of Fits rs m s₀ image table₀ m' s₁ image₁ table₁
      → (chooses : ℕ → ℕ) (image' : List ℕ) → AreBytes image' → words_of image' ≡ cut chooses m' → length image' ≡ length image
      → (t t' : S) (table₂ table₃ : List ℕ) (r : Report) → Proper t → Called Proper state_of Fits Open t t' image' image' table₂ table₃ r
      → Old m image' table₂ r ⊎ ((r ≡ R.Refused N.NotOpen) ⊎ Empty t' image' table₃ r)

  -- AMONG OTHER CALLS, in a world and its book of which demand 3 holds (a cut and an opening may come next): a
  -- formatting begun and cut, and an opening with a table no smaller than at the opening before. It answers 2, or opens
  -- an empty register, or opens the book's.
  abbrev pub FormatCutAmong : Type 0
  FormatCutAmong =
      (w : World S) (b : Book) → ((before : ℕ → ℕ) → Faithful Proper state_of Fits (Cut before ∷ Do Open ∷ []) w b) → words_of w.image ≡ latest w.medium
      → (m' : Medium) (s s₀ s₁ : S) (image₁ table table₀ table₁ : List ℕ) (p : ℕ) (station centre : Given) (a : ℕ) (rs : List Report)
      → Called Proper state_of Fits (Format p station centre) s s₀ w.image w.image table table₀ (R.Begun a)
      → Stepped Proper state_of Fits rs w.medium s₀ w.image table₀ m' s₁ image₁ table₁
      → (chooses : ℕ → ℕ) (image' : List ℕ) → AreBytes image' → words_of image' ≡ cut chooses m' → length image' ≡ length w.image
      → (t t' : S) (table₂ table₃ : List ℕ) (r : Report) → Proper t → w.least ≤ length table₂ → Called Proper state_of Fits Open t t' image' image' table₂ table₃ r
      → ((r ≡ R.Opened) × ((done : Bool) × Shows Proper state_of Fits t' image' table₃ (note_open done b).register))
      ⊎ ((r ≡ R.Refused N.NotOpen) ⊎ Empty t' image' table₃ r)
