-- Demand 2: an accepted image means one register, and what the calls do to it, on memory as our calls left it: an
-- opening accepted the image, and each later call was lent record, image and table as the last one left them. What a
-- call does is `Called`, the very predicate that each public function ensures. Power cuts are demand 3's (History).
-- Assumes nothing.
use Rattle.std.specs.Prelude.{◌≡◌, Bool, false, List, [], ◌∷◌, ◌++◌, ℕ}
use Rattle.spec.specs.Words.{AreBytes}
use Rattle.spec.specs.Medium.{Medium}
use Rattle.spec.specs.Contents.{Held}
use Rattle.spec.specs.Machine.{Call, Format, Open, Put, Delete, Commit, Abandon, LookUp, Choose, Clean, Step, State, is_opening, kind_of}
use Rattle.spec.specs.Book.{Item, Book, new_book, nothing, done_items, note}
use Rattle.spec.specs.Contract.{Called}
use Rattle.spec.specs.History.{meant, Stands, Stepped, Shows, unfinished_after}
use Rattle.spec.specs.declared.Report.{Report}
use Rattle.spec.specs.declared.Report.TheVariants as R

-- What a call does to the register from its begin to its end, with these items in the tray: a commit does them in
-- order; a staging and a cleaning keep the register the same; a formatting makes it empty.
-- R62, R79
abbrev pub does : Call → List Item → (ℕ → Held) → ℕ → Held
does (Format p a b) tray register = nothing
does Open tray register = register
does (Put x k v) tray register = register
does (Delete x k) tray register = register
does Commit tray register = done_items tray register
does Abandon tray register = register
does (LookUp k) tray register = register
does Choose tray register = register
does (Clean c) tray register = register
does Step tray register = register

-- the calls that have a begin and an end; a value is bytes
abbrev pub MayBegin : Call → Type 0
MayBegin (Format p a b) = Unit {0}
MayBegin Open = ⊥
MayBegin (Put x k v) = AreBytes v
MayBegin (Delete x k) = Unit {0}
MayBegin Commit = Unit {0}
MayBegin Abandon = ⊥
MayBegin (LookUp k) = ⊥
MayBegin Choose = ⊥
MayBegin (Clean c) = Unit {0}
MayBegin Step = ⊥

-- every call but a step, and a step with no call unfinished
-- R80
abbrev pub Untouching : Call → Bool → Type 0
Untouching (Format p a b) u = Unit {0}
Untouching Open u = Unit {0}
Untouching (Put x k v) u = Unit {0}
Untouching (Delete x k) u = Unit {0}
Untouching Commit u = Unit {0}
Untouching Abandon u = Unit {0}
Untouching (LookUp k) u = Unit {0}
Untouching Choose u = Unit {0}
Untouching (Clean c) u = Unit {0}
Untouching Step u = u ≡ false

module _ {S : Type 0} (Proper : S → Type 0) (state_of : S → State) (Fits : S → List ℕ → List ℕ → Type 0) where
  -- WHAT IS CLAIMED of a record, an image and a table as our calls left them. The book has noted the calls and their
  -- answers; its tray has the items staged since the last commit, abandoning or opening. u: whether a call begun has
  -- not ended.
  -- R78, R80
  pub record Right (b : Book) (u : Bool) (s : S) (image table : List ℕ) : Type 0 where
    -- with no call unfinished the image means what the book's register says, whatever refused calls stood between
    pub booked : u ≡ false → (key : ℕ) → meant image key ≡ b.register key
    -- look-up shows the image's register: the key's bytes, or 11 where it is absent
    pub looks : u ≡ false → Shows Proper state_of Fits s image table (meant image)
    -- a call from its accepted begin to its reported end, all its steps between
    pub ends : (k : Call) (s₀ s' : S) (image' table₀ table' : List ℕ) (a n : ℕ) (rs : List Report) (m m' : Medium) → MayBegin k
        → Called Proper state_of Fits k s s₀ image image table table₀ (R.Begun a)
        → Stepped Proper state_of Fits (rs ++ (R.End n ∷ [])) m s₀ image table₀ m' s' image' table'
        → (key : ℕ) → meant image' key ≡ does k b.staged (meant image) key
    -- all else leaves the image as it was, byte for byte: refused calls, begins, openings, abandonings, choosings,
    -- look-ups, idle steps
    pub keeps : (k : Call) (s' : S) (image' table' : List ℕ) (r : Report) → Untouching k u
        → Called Proper state_of Fits k s s' image image' table table' r → image' ≡ image

  -- AFTER A LIST OF CALLS, whatever they answer, such a thing holds of what they left. Any calls but a formatting that
  -- is not refused, and but an opening: if it accepts the image it is a start itself.
  abbrev pub Along : (Book → Bool → S → List ℕ → List ℕ → Type 0) → List Call → Book → Bool → S → List ℕ → List ℕ → Type 0
  Along P [] b u s image table = P b u s image table
  Along P (k ∷ ks) b u s image table =
      (s' : S) (image' table' : List ℕ) (r : Report) → Called Proper state_of Fits k s s' image image' table table' r → AreBytes image' → Stands k r → is_opening (kind_of k) ≡ false
      → Along P ks (note k r b) (unfinished_after r u) s' image' table'

  -- after every list of calls behind an opening, lent any record and table, that accepted an image
  abbrev pub AsCallsLeft : (Book → Bool → S → List ℕ → List ℕ → Type 0) → Type 0
  AsCallsLeft P = (calls : List Call) (s s' : S) (image table table' : List ℕ) → AreBytes image → Proper s → Called Proper state_of Fits Open s s' image image table table' R.Opened
      → Along P calls (new_book (meant image)) false s' image table'

  -- DEMAND 2
  abbrev pub Demand2 : Type 0
  Demand2 = AsCallsLeft Right
