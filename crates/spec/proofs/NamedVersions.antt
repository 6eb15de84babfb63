-- A version in hand: which stagings a named version lets through, in which order it is asked, and what look-up hands
-- out, computed on a few entries; each slip that lets a window overwrite another's change goes wrong here.
-- Assumes nothing.
use mathlib.Core.Bool.{Bool}
use mathlib.Core.List.{List, [], ◌∷◌}
use Prim.Native.Nat.{ℕ}
use lib.Dec.{T, eqb}
use lib.ListN.{get_or, replicate}
use Rattle.spec.specs.Basics.{every}
use Rattle.spec.specs.Places.{base_power, chunk_units}
use Rattle.spec.specs.Blocks.{block_limit}
use Rattle.spec.specs.Log.{Entry}
use Rattle.spec.specs.Contents.{tops, chosen, capacity}
use Rattle.spec.specs.Reports.{number, numbers_of}
use Rattle.spec.specs.Plans.{Plan, Refuse, Begin, entry, plan_put, plan_delete, look_up}
use Rattle.spec.specs.Basics.{Given}
use Rattle.std.specs.declared.option.Option.TheVariants as G

-- key 7 was put twice; 5 was put and deleted; 9 has the last version of a put, 10 the last one of all, by an old image
abbrev known : List Entry
known =
    entry 1 0 1 0 7 []
    ∷ entry 1 0 2 0 7 []
    ∷ entry 1 0 1 0 5 []
    ∷ entry 2 0 2 0 5 []
    ∷ entry 1 0 1048574 0 9 []
    ∷ entry 1 0 1048575 0 10 []
    ∷ []

-- the refusal's number, 0 where the staging begins
abbrev told : Plan → ℕ
told (Refuse n) = number n
told (Begin items task acts) = 0

abbrev put : List Entry → Given → ℕ → ℕ → ℕ
put items named k bytes = told (plan_put base_power 4 [] 64 known items named k (replicate bytes 94))

abbrev delete : List Entry → Given → ℕ → ℕ
delete items named k = told (plan_delete 64 known items named k)

-- one item of key 7, and a full batch
abbrev one : List Entry
one = entry 1 0 3 0 7 [] ∷ []

abbrev full : List Entry
full = replicate 16 (entry 1 0 1 0 8 [])

abbrev rows : List Bool
rows =
    -- the key's highest version, and no other one
    eqb (put [] (G.Some 2) 7 0) 0
    ∷ eqb (put [] (G.Some 1) 7 0) 17
    ∷ eqb (put [] (G.Some 3) 7 0) 17
    ∷ eqb (put [] (G.Some 0) 7 0) 17
    ∷ eqb (delete [] (G.Some 2) 7) 0
    ∷ eqb (delete [] (G.Some 1) 7) 17
    -- staged items are counted
    ∷ eqb (put one (G.Some 2) 7 0) 17
    ∷ eqb (put one (G.Some 3) 7 0) 0
    ∷ eqb (delete one (G.Some 2) 7) 17
    ∷ eqb (delete one (G.Some 3) 7) 0
    -- 0 is that of a key neither known nor staged; a deleted key has its delete's
    ∷ eqb (put [] (G.Some 0) 8 0) 0
    ∷ eqb (put [] (G.Some 1) 8 0) 17
    ∷ eqb (put [] (G.Some 0) 5 0) 17
    ∷ eqb (put [] (G.Some 1) 5 0) 17
    ∷ eqb (put [] (G.Some 2) 5 0) 0
    -- 9 and 11 before 17; 17 before 12 and 10
    ∷ eqb (put [] (G.Some 1) 7 4089) 9
    ∷ eqb (delete [] (G.Some 1) 5) 11
    ∷ eqb (delete [] (G.Some 1) 8) 11
    ∷ eqb (put [] (G.Some 1) 9 0) 17
    ∷ eqb (put [] (G.Some 1048574) 9 0) 12
    ∷ eqb (delete [] (G.Some 1) 10) 17
    ∷ eqb (delete [] (G.Some 1048575) 10) 12
    ∷ eqb (put full (G.Some 1) 7 0) 17
    ∷ eqb (put full (G.Some 2) 7 0) 10
    ∷ eqb (delete full (G.Some 1) 7) 17
    ∷ eqb (delete full (G.Some 2) 7) 10
    -- where none is named nothing is asked
    ∷ eqb (put [] G.None 7 0) 0
    ∷ eqb (put [] G.None 9 0) 12
    ∷ eqb (delete [] G.None 7) 0
    -- look-up hands out the version that the next staging has to name, in the log and in a block
    ∷ eqb (get_or (numbers_of (look_up [] known 7)) 2 0) 2
    ∷ eqb (get_or (numbers_of (look_up [] (entry 1 1 4 32 3 [] ∷ entry 1 1 5 34 3 [] ∷ []) 3)) 2 0) 5
    ∷ []

pub computed : T (every rows)
unfolding chunk_units block_limit tops chosen capacity plan_put plan_delete look_up
computed = tt
