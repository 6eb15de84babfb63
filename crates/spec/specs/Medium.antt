-- The medium: each word with its possible values, and what a store, a flush, a fence and a power cut do to them.
--
-- THE FAULT MODEL: what module, processor and host are taken to do.
--   F1. A word (8 aligned bytes) is stored by one move and reaches the medium whole.
--   F2. After a store the word may hold the new value or any value it might have held before; words are independent of
--       each other, also those of one line, and of the order of stores: `added`. What the processor reads is the
--       newest: `latest`.
--   F3. A flush of a line marks the newest value of each of its eight words, and alone settles nothing: `marked`.
--   F4. A fence drops, of each word, all values older than its mark: `drained`. Values stored after the flush stay
--       possible.
--   F5. A cut picks for each word one of its possible values, which is then its only one: `CanCutTo`, `cut`,
--       `settled_at`.
--   F6. Cuts fall before, between and after steps, and between the stores of a run; any number of them.
--   F7. Record, key table and all else that is volatile are gone after a cut; the next call is an opening with any
--       record and table.
--   F8. The host does each reported action on the module before the next step, in order; nobody else writes the image;
--       lengths are true.
--   F9. Not covered: bytes that change by themselves or by another program (the format has no checksum), a module that
--       forgets what was fenced, another formatting of the image. A killed process counts as a cut that kept every
--       newest word, once the whole image was written back and fenced.
-- Assumes nothing.
use Rattle.std.specs.Prelude.{◌≡◌, ◌⊎◌, List, [], ◌∷◌, ◌++◌, map, ℕ, suc, eqb, get_or}
use Rattle.spec.specs.Basics.{pick}
use Rattle.spec.specs.Places.{line_of}

-- A word's possible values, newest first: `now`, then `newer`, back to the last flush's mark, then `older`, which a
-- fence drops. The value that bears the mark is the last of `now` and `newer`.
pub record Cell : Type 0 where
  pub now : ℕ
  pub newer : List ℕ
  pub older : List ℕ

abbrev pub fresh : ℕ → Cell
fresh v = record { now = v; newer = []; older = [] }

abbrev pub values : Cell → List ℕ
values c = c.now ∷ (c.newer ++ c.older)

-- a store adds a value
-- R67
abbrev pub added : ℕ → Cell → Cell
added v c = record { now = v; newer = c.now ∷ c.newer; older = c.older }

-- a flush marks the latest
-- R67
abbrev pub marked : Cell → Cell
marked c = record { now = c.now; newer = []; older = c.newer ++ c.older }

-- a fence drops all before a mark
-- R67
abbrev pub drained : Cell → Cell
drained c = record { now = c.now; newer = c.newer; older = [] }

-- a store of a word, a flush of a line, a fence
pub data Action : Type 0 where
  Store : ℕ → ℕ → Action
  Flush : ℕ → Action
  Fence : Action

-- what an action does to the word at an address
abbrev pub step : Action → ℕ → Cell → Cell
step (Store a v) i c = pick (eqb i a) (added v c) c
step (Flush l) i c = pick (eqb (line_of i) l) (marked c) c
step Fence i c = drained c

abbrev pub Medium : Type 0
Medium = List Cell

-- an action on a part of the medium whose first word is word i
abbrev pub apply_from : Action → ℕ → Medium → Medium
apply_from a i [] = []
apply_from a i (c ∷ cs) = step a i c ∷ apply_from a (suc i) cs

abbrev pub apply : Action → Medium → Medium
apply a m = apply_from a 0 m

abbrev pub run : List Action → Medium → Medium
run [] m = m
run (a ∷ rest) m = run rest (apply a m)

-- what the processor reads
abbrev pub latest : Medium → List ℕ
latest [] = []
latest (c ∷ cs) = c.now ∷ latest cs

abbrev pub cell_at : Medium → ℕ → Cell
cell_at m i = get_or m i (fresh 0)

abbrev pub Mem : ℕ → List ℕ → Type 0
Mem x [] = ⊥
Mem x (y ∷ ys) = (x ≡ y) ⊎ Mem x ys

-- a cut: each word picks one of its possible values
-- R67
abbrev pub CanCutTo : Medium → List ℕ → Type 0
CanCutTo [] [] = Unit {0}
CanCutTo [] (x ∷ xs) = ⊥
CanCutTo (c ∷ cs) [] = ⊥
CanCutTo (c ∷ cs) (x ∷ xs) = Mem x (values c) × CanCutTo cs xs

-- the same as a function: word i takes its value number `chooses i`, or its newest if it has no such value
abbrev pub cut_from : (ℕ → ℕ) → ℕ → Medium → List ℕ
cut_from chooses i [] = []
cut_from chooses i (c ∷ cs) = get_or (values c) (chooses i) c.now ∷ cut_from chooses (suc i) cs

-- R67
abbrev pub cut : (ℕ → ℕ) → Medium → List ℕ
cut chooses m = cut_from chooses 0 m

-- what the medium is when the power is back: each word's one value
abbrev pub settled_at : List ℕ → Medium
settled_at xs = map fresh xs
