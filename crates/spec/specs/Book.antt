-- The desk book of demand 3: fed with the calls, their answers, the reported ends and the cuts alone.
-- Assumes nothing.
use Rattle.std.specs.Prelude.{Bool, true, false, List, [], ◌∷◌, ◌++◌, ℕ, eqb}
use Rattle.std.proofs.Math.Option.{Option, none, some}
use Rattle.spec.specs.Basics.{pick}
use Rattle.spec.specs.Contents.{Held, Absent, Value}
use Rattle.spec.specs.Reports.{is_refused}
use Rattle.spec.specs.Machine.{Call, Format, Open, Put, Delete, Commit, Abandon, LookUp, Choose, Clean, Step}
use Rattle.spec.specs.declared.Report.{Report}
use Rattle.spec.specs.declared.Report.TheVariants as R

-- an item: a key, and what it is to have
pub record Item : Type 0 where
  pub key : ℕ
  pub gets : Held

-- the register; the tray of staged items; the batch in hand, of a commit that has begun and is not known to have ended
-- R73
pub record Book : Type 0 where
  pub register : ℕ → Held
  pub staged : List Item
  pub in-flight : Option (List Item)

abbrev pub book : (ℕ → Held) → List Item → Option (List Item) → Book
book register staged in-flight = record { register = register; staged = staged; in-flight = in-flight }

-- it starts with a register, an empty tray and no batch
-- R73
abbrev pub new_book : (ℕ → Held) → Book
new_book register = book register [] none

abbrev pub nothing : ℕ → Held
nothing k = Absent

-- items done in order: a put sets its key's value, a delete makes it absent
abbrev pub done_item : Item → (ℕ → Held) → ℕ → Held
done_item i register k = pick (eqb i.key k) i.gets (register k)

-- R54, R79
abbrev pub done_items : List Item → (ℕ → Held) → ℕ → Held
done_items [] register = register
done_items (i ∷ is) register = done_items is (done_item i register)

-- R75
abbrev pub done_batch : Option (List Item) → (ℕ → Held) → ℕ → Held
done_batch none register = register
done_batch (some is) register = done_items is register

abbrev pub is_end : Report → Bool
is_end (R.Refused n) = false
is_end (R.Begun a) = false
is_end (R.Store w v) = false
is_end (R.Flush l) = false
is_end R.Fence = false
is_end (R.End n) = true
is_end R.Idle = false
is_end R.Opened = false
is_end R.Abandoned = false
is_end (R.Chosen c) = false
is_end (R.Part a n v) = false

abbrev pub with_staged : Item → Book → Book
with_staged i b = book b.register (b.staged ++ (i ∷ [])) b.in-flight

-- a call and its answer
-- R74, R75
abbrev pub note : Call → Report → Book → Book
note (Format p s c) r b = b
note Open r b = b
note (Put x k v) r b = pick (is_refused r) b (with_staged (record { key = k; gets = Value v }) b)
note (Delete x k) r b = pick (is_refused r) b (with_staged (record { key = k; gets = Absent }) b)
note Commit r b = pick (is_refused r) b (book b.register [] (some b.staged))
note Abandon r b = pick (is_refused r) b (book b.register [] b.in-flight)
note (LookUp k) r b = b
note Choose r b = b
note (Clean c) r b = b
note Step r b = pick (is_end r) (book (done_batch b.in-flight b.register) b.staged none) b

-- a power cut: the tray is emptied, a batch in hand stays there
-- R76
abbrev pub note_cut : Book → Book
note_cut b = book b.register [] b.in-flight

-- an opening: the tray is emptied; a batch in hand is done whole or dropped, as look-up then shows
-- R76
abbrev pub note_open : Bool → Book → Book
note_open done b = book (pick done (done_batch b.in-flight b.register) b.register) [] none
