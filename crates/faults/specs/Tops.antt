-- The first top entry of which a test of the opening does not hold.
-- Assumes nothing.
use Rattle.std.specs.Prelude.{Bool, true, List, ℕ, eqb, Option as Maybe, Some, None}
use Rattle.std.proofs.Math.Option.{Option, none, some}
use Rattle.spec.specs.Basics.{pick, both, negate, filter, first}
use Rattle.spec.specs.Log.{Entry}
use Rattle.spec.specs.Contents.{is_top, chosen}
use Rattle.spec.specs.Opening.{each_top, agree_with, sharing}

abbrev pub first_top : List Entry → (Entry → Bool) → Option Entry
first_top es test = first (filter (λ e. both (is_top es e) (negate (test e))) es)

-- 6: it agrees with the chosen one of its key, and shares its block with no other key's top entry
abbrev pub apart_from : List Entry → Entry → Bool
apart_from es e = each_top es (λ f. pick (sharing e f) (eqb e.key f.key) true)

abbrev pub at_one : List Entry → Entry → Bool
at_one es e = both (agree_with e (chosen e.key es)) (apart_from es e)

-- the first word of an entry, if there is one
abbrev pub place_of : Option Entry → Maybe ℕ
place_of none = None
place_of (some e) = Some e.at
