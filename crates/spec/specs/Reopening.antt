-- Closing changes nothing: a station closed and opened again answers every later list of calls as one that was never
-- closed.
-- Assumes nothing.
use Rattle.std.specs.Prelude.{◌≡◌, false, List, [], ◌∷◌, ℕ, length}
use Rattle.spec.specs.Words.{words_of, AreBytes}
use Rattle.spec.specs.Machine.{Call, Open, State, Rest}
use Rattle.spec.specs.Contract.{Called}
use Rattle.spec.specs.Means.{AsCallsLeft}
use Rattle.spec.specs.declared.Report.{Report}
use Rattle.spec.specs.declared.Report.TheVariants as R

module _ {S : Type 0} (Proper : S → Type 0) (state_of : S → State) (Fits : S → List ℕ → List ℕ → Type 0) where
  -- What two stations have in common after a list of calls: the image, byte for byte, the state and the table's length;
  -- and record and table fit at both. So they answer alike where a contract speaks by these alone, as those of the
  -- calls that list keys do.
  pub record Same (s t : S) (image other table beside : List ℕ) : Type 0 where
    pub bytes : image ≡ other
    pub state : state_of s ≡ state_of t
    pub lengths : length table ≡ length beside
    pub fits : Fits s (words_of image) table
    pub also : Fits t (words_of other) beside

  -- Two stations with their own records, images and tables get the same list of calls, of any kind, each lent what its
  -- last call left. Whatever they answer, as the contract allows: the answers (with them the reported actions) are the
  -- same, and the images are, byte for byte, call by call. (An image is bytes.)
  -- R82
  abbrev pub Alike : List Call → S → S → List ℕ → List ℕ → List ℕ → List ℕ → Type 0
  Alike [] s t image other table beside = Same s t image other table beside
  Alike (k ∷ ks) s t image other table beside =
      (s' t' : S) (image' other' table' beside' : List ℕ) (r q : Report) → AreBytes image' → AreBytes other'
      → Called Proper state_of Fits k s s' image image' table table' r → Called Proper state_of Fits k t t' other other' beside beside' q
      → (r ≡ q) × ((image' ≡ other') × Alike ks s' t' image' other' table' beside')

  -- The same image opened with any record, and any table of the same length: that opening succeeds, and from then on
  -- the station that it leaves and the one with record s and that table, which was never closed, are alike.
  abbrev pub Reopens : S → List ℕ → List ℕ → Type 0
  Reopens s image table =
      (t t' : S) (lent table' : List ℕ) (r : Report) → Proper t → length lent ≡ length table → Called Proper state_of Fits Open t t' image image lent table' r
      → (r ≡ R.Opened) × ((calls : List Call) → Alike calls s t' image image table table')

  -- CLOSING CHANGES NOTHING: a register is open, record and table fit the image, nothing is staged or unfinished.
  -- R82
  abbrev pub Reopened : Type 0
  Reopened = (s : S) (p : ℕ) (image table : List ℕ) → AreBytes image → Fits s (words_of image) table → state_of s ≡ Rest p (length image) (length table) [] → Reopens s image table

  -- The same with nothing said of what a record holds: after every list of calls behind an opening, wherever by their
  -- answers the tray is empty and no call is unfinished.
  -- R82
  abbrev pub ReopenedAfter : Type 0
  ReopenedAfter = AsCallsLeft Proper state_of Fits (λ b u s image table. b.staged ≡ [] → u ≡ false → Reopens s image table)
