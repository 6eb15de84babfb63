-- What an opening after a power cut shows, for images of four chunks.
-- Assumes nothing.
use Rattle.std.specs.Prelude.{Bool, true, false, List, [], ◌∷◌, map, ℕ, ◌%◌, eqb}
use Rattle.spec.specs.Basics.{pick, both}
use Rattle.spec.specs.Places.{base_power}
use Rattle.spec.specs.Medium.{Action, Medium, apply, run, cut, settled_at}
use Rattle.spec.specs.Contents.{Held, same_held, contents}
use Rattle.spec.specs.Opening.{Opening, Refused, Accepted, opening}
use Rattle.spec.specs.Reports.{number}

-- an opening's refusal, or what the keys have
pub data Seen : Type 0 where
  Refusal : ℕ → Seen
  Holds : List Held → Seen

abbrev pub same_helds : List Held → List Held → Bool
same_helds [] [] = true
same_helds [] (h ∷ hs) = false
same_helds (g ∷ gs) [] = false
same_helds (g ∷ gs) (h ∷ hs) = both (same_held g h) (same_helds gs hs)

abbrev pub same_seen : Seen → Seen → Bool
same_seen (Refusal m) (Refusal n) = eqb m n
same_seen (Refusal m) (Holds hs) = false
same_seen (Holds gs) (Refusal n) = false
same_seen (Holds gs) (Holds hs) = same_helds gs hs

abbrev pub seen_by : Opening → List ℕ → List ℕ → Seen
seen_by (Refused n) ws keys = Refusal (number n)
seen_by (Accepted es) ws keys = Holds (map (contents base_power 4 ws) keys)

abbrev pub seen : List ℕ → List ℕ → Seen
seen ws keys = seen_by (opening 16384 ws 64) ws keys

-- Which value each word keeps: its newest; the one before; by turns; the newest save for word w; only word w the
-- newest.
abbrev pub newest : ℕ → ℕ
newest i = 0

abbrev pub older : ℕ → ℕ
older i = 1

abbrev pub by_turns : ℕ → ℕ
by_turns i = i % 2

abbrev pub losing : ℕ → ℕ → ℕ
losing w i = pick (eqb i w) 1 0

abbrev pub keeping_only : ℕ → ℕ → ℕ
keeping_only w i = pick (eqb i w) 0 1

-- what an opening shows after these actions on an image at rest, and a cut
abbrev pub after : List Action → (ℕ → ℕ) → List ℕ → List ℕ → Seen
after acts chooses ws keys = seen (cut chooses (run acts (settled_at ws))) keys

-- the same after each prefix of the actions, the empty one first
abbrev pub after_each : List Action → (ℕ → ℕ) → Medium → List ℕ → List Seen
after_each [] chooses m keys = seen (cut chooses m) keys ∷ []
after_each (a ∷ rest) chooses m keys = seen (cut chooses m) keys ∷ after_each rest chooses (apply a m) keys

-- a row: what was seen, and what is right to see
pub record Sight : Type 0 where
  pub computed : List Seen
  pub right : List Seen

infix 70 ◌show◌
abbrev pub ◌show◌ : List Seen → List Seen → Sight
xs show ys = record { computed = xs; right = ys }

infix 70 ◌shows◌
abbrev pub ◌shows◌ : Seen → Seen → Sight
x shows y = (x ∷ []) show (y ∷ [])

abbrev pub same_sights : List Seen → List Seen → Bool
same_sights [] [] = true
same_sights [] (y ∷ ys) = false
same_sights (x ∷ xs) [] = false
same_sights (x ∷ xs) (y ∷ ys) = both (same_seen x y) (same_sights xs ys)

abbrev pub sight_holds : Sight → Bool
sight_holds s = same_sights s.computed s.right
