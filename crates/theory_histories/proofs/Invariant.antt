-- What holds of a world and its desk book before and after every event of a list. Invariants 1 to 3, on an open
-- register, are those of Kept.
--
--   4. The image's words are what the processor reads from the medium: `agrees`; `image-follows` after a call,
--      `cut-kept` after a cut.
--   5. The image has as many bytes as at the start, whole chunks: `sized`; the same two lemmas.
--   6. With nothing lent (after a formatting, after a cut) the medium stands with the book's register, the batch in
--      hand dropped or done: `Either`; `format-start`, `cut-kept`.
--   7. Else record and table fit the image, the table has as many words as at the opening before, and the record's
--      state holds by the book: `HeldAt`; `opened`, `usual-kept`, and for a refused formatting `format-kept`.
-- From 6 or 7 an opening succeeds (`opened`), and after it, as whenever no call is unfinished, look-up gives the book's
-- register (`looks`). The lemmas on events are in Events, that on the first start in Starts.
-- Assumes nothing.
use mathlib.Core.Path.{◌≡◌, refl, sym, ◌∙◌, ap}
use mathlib.Core.Logic.{◌⊎◌}
use mathlib.Core.Bool.{true, false}
use mathlib.Core.Option.{Option, none, some}
use mathlib.Core.List.{List, []}
use Prim.Native.Nat.{ℕ}
use native.Mathlib.Omega.{arith}
use lib.ListN.{length, set}
use Rattle.spec.specs.Words.{words_of}
use Rattle.spec.specs.Medium.{Medium, Flush, Fence, latest, settled_at}
use Rattle.spec.specs.Reports.{medium_after, is_refused}
use Rattle.spec.specs.Machine.{State}
use Rattle.spec.specs.Book.{Book, note_open}
use Rattle.spec.specs.Contract.{Changed}
use Rattle.spec.specs.History.{Lent, World}
use Rattle.spec.specs.declared.Refusal.{Refusal}
use Rattle.spec.specs.declared.Report.{Report}
use Rattle.spec.specs.declared.Report.TheVariants as R
use Rattle.theory_base.proofs.Words as W
use Rattle.theory_crash.proofs.Rest.{latest-quiet}
use Rattle.theory_histories.proofs.Kept.{StandsBy, Holds}

-- the medium stands with the batch in hand dropped or done
abbrev pub Either : (p bytes least : ℕ) → Book → Medium → Type 0
Either p bytes least b m = StandsBy p bytes least (note_open false b) [] m ⊎ StandsBy p bytes least (note_open true b) [] m

module _ (p : ℕ) {S : Type 0} (Proper : S → Type 0) (state_of : S → State) (Fits : S → List ℕ → List ℕ → Type 0) (bytes : ℕ) where
  abbrev pub HeldAt : Option (Lent S) → World S → Book → Type 0
  HeldAt none w b = Either p bytes w.least b w.medium
  HeldAt (some l) w b =
      Fits l.session (words_of w.image) l.table × (length l.table ≡ w.least) × Holds p bytes w.least w.unfinished b (state_of l.session) w.medium

  pub record Inv (w : World S) (b : Book) : Type 0 where
    pub agrees : words_of w.image ≡ latest w.medium
    pub sized : length w.image ≡ bytes
    pub held : HeldAt w.lent w b

-- The report is the image's whole change, so that the bytes follow the medium.
pub image-follows : (r : Report) (m : Medium) (image image' : List ℕ) → Changed r image image' → words_of image ≡ latest m
    → (words_of image' ≡ latest (medium_after r m)) × (length image' ≡ length image)
image-follows (R.Refused n) m image image' c e = (ap words_of c ∙ e, ap length c)
image-follows (R.Begun a) m image image' c e = (ap words_of c ∙ e, ap length c)
image-follows (R.Store w v) m image image' c e = (c.0 ∙ ap (λ (l : List ℕ). set l w v) e ∙ sym (W.latest-store w v m), c.1)
image-follows (R.Flush l) m image image' c e = (ap words_of c ∙ e ∙ sym (latest-quiet (Flush l) m tt), ap length c)
image-follows R.Fence m image image' c e = (ap words_of c ∙ e ∙ sym (latest-quiet Fence m tt), ap length c)
image-follows (R.End n) m image image' c e = (ap words_of c ∙ e, ap length c)
image-follows R.Idle m image image' c e = (ap words_of c ∙ e, ap length c)
image-follows R.Opened m image image' c e = (ap words_of c ∙ e, ap length c)
image-follows R.Abandoned m image image' c e = (ap words_of c ∙ e, ap length c)
image-follows (R.Chosen c') m image image' c e = (ap words_of c ∙ e, ap length c)
image-follows (R.Part a n v) m image image' c e = (ap words_of c ∙ e, ap length c)

pub same_length : (r : Report) (image image' : List ℕ) → Changed r image image' → length image' ≡ length image
same_length r image image' c = (image-follows r (settled_at (words_of image)) image image' c (sym (W.latest-settled (words_of image)))).1

pub false-true : false ≡ true → ⊥
false-true e = let z : ◌≡◌ {A = ℕ} 0 1 = cc in omega arith

pub refused-is : (r : Report) → is_refused r ≡ true → (n : Refusal) × (r ≡ R.Refused n)
refused-is (R.Refused n) e = (n, refl)
refused-is (R.Begun a) e = absurd (false-true e)
refused-is (R.Store w v) e = absurd (false-true e)
refused-is (R.Flush l) e = absurd (false-true e)
refused-is R.Fence e = absurd (false-true e)
refused-is (R.End n) e = absurd (false-true e)
refused-is R.Idle e = absurd (false-true e)
refused-is R.Opened e = absurd (false-true e)
refused-is R.Abandoned e = absurd (false-true e)
refused-is (R.Chosen c) e = absurd (false-true e)
refused-is (R.Part a n v) e = absurd (false-true e)
