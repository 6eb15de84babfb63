-- The sums on the way: what is owed to them, and what one more entry does.
-- Assumes nothing.
use mathlib.Core.Path.{◌≡◌, refl, sym, ◌∙◌, ap}
use mathlib.Core.Bool.{Bool, true, false}
use mathlib.Core.Option.{none, some}
use mathlib.Core.List.{List, [], ◌∷◌, ◌++◌}
use Prim.Native.Nat.{ℕ, ◌+◌, ◌%◌, ◌^◌, ◌≤◌, ◌<◌}
use native.Mathlib.Nat.{mod-add-mod}
use native.Mathlib.Omega.{arith}
use lib.Dec.{eqb}
use lib.ListN.{length, get_or}
use borrow.Author.Tests.{eq-eqb}
use Rattle.spec.specs.declared.Size.{Size}
use Rattle.places.specs.Sizes.{power_of}
use Rattle.spec.specs.Basics.{pick}
use Rattle.spec.specs.Places.{word_chunk}
use Rattle.packing.specs.Packed.{widths_of}
use Rattle.spec.specs.Log.{Entry}
use Rattle.spec.specs.Contents.{chosen}
use Rattle.buffer.specs.Areas.{sums_start, sums_count}
use Rattle.volatile.specs.Sums.{weight, share_in, chosen_sum, Summed}
use Rattle.volatile.specs.Change.{only, nothing, Changed}
use Rattle.volatile.proofs.Laws.{share-only}
use Rattle.volatile.proofs.Joins.{sum-new}
use Rattle.opening.specs.Pass.{Owing}

only_none : (size : Size) → (place c : ℕ) → only size place 0 c ≡ 0
only_none size place c = go (eqb (word_chunk (power_of size) place % sums_count) c)
  where
    go : (b : Bool) → ◌≡◌ {A = ℕ} (pick b 0 0) 0
    go true = refl
    go false = refl

only-plus : (size : Size) → (place a b c : ℕ) → only size place (a + b) c ≡ only size place a c + only size place b c
only-plus size place a b c = go (eqb (word_chunk (power_of size) place % sums_count) c)
  where
    go : (t : Bool) → pick t (a + b) 0 ≡ pick t a 0 + pick t b 0
    go true = refl
    go false = refl

only_same : (size : Size) → (place other w c : ℕ) → word_chunk (power_of size) place ≡ word_chunk (power_of size) other → only size place w c ≡ only size other w c
only_same size place other w c q = rw q

-- NOTHING is owed
pub owing-none : (size : Size) → (b : List ℕ) (place : ℕ) (xs : List Entry) → Summed size b xs → Owing size b place 0 xs
owing-none size b place xs s = record {
  each = λ c l. let z = only_none size place c in let y = s.each c l in omega arith;
  narrow = λ c l. let y = s.each c l in omega arith;
}

pub owing-summed : (size : Size) → (b : List ℕ) (place : ℕ) (xs : List Entry) → Owing size b place 0 xs → Summed size b xs
owing-summed size b place xs o = record { each = λ c l. let z = only_none size place c in let y = o.each c l in let n = o.narrow c l in omega arith }

pub owing-turned : (size : Size) → (b : List ℕ) (place other : ℕ) (xs : List Entry) → Owing size b place 0 xs → Owing size b other 0 xs
owing-turned size b place other xs o = owing-none size b other xs (owing-summed size b place xs o)

-- what is owed is paid
pub owing-paid : (size : Size) → (b d : List ℕ) (place owed : ℕ) (xs : List Entry) → Owing size b place owed xs → Changed b d (only size place owed) nothing → Summed size d xs
owing-paid size b d place owed xs o k = record {
  each = λ c l.
      let x = k.sums c l in
      let y = o.each c l in
      let n = k.narrow c l (o.narrow c l) in
      omega arith;
}

-- A PUT of a new key in the same chunk
pub owing-more : (size : Size) → (b : List ℕ) (place owed m : ℕ) (xs : List Entry) (e : Entry) → chosen e.key xs ≡ none → 1 ≤ e.version → e.at < (widths_of size).place → word_chunk (power_of size) e.at ≡ word_chunk (power_of size) place → e.op ≡ 1 → length e.value ≡ m
    → Owing size b place owed xs → Owing size b place (owed + (2 + m)) (xs ++ e ∷ [])
owing-more size b place owed m xs e none_yet low small here put long o = record { each = each; narrow = o.narrow }
  where
    own : weight e ≡ 2 + m
    own = rw (eq-eqb e.op 1 put, long)

    share : (c : ℕ) → share_in size c (some e) ≡ only size place (2 + m) c
    share c = share-only size c e small ∙ rw own (only_same size e.at place (2 + m) c here)

    each : (c : ℕ) → c < sums_count → (get_or b (sums_start + c) 0 + only size place (owed + (2 + m)) c) % 2 ^ 64 ≡ chosen_sum size c (xs ++ e ∷ []) % 2 ^ 64
    each c l =
        let g = get_or b (sums_start + c) 0 in
        let y = only size place (2 + m) c in
        let s = sum-new size c xs e none_yet low in
        let a : get_or b (sums_start + c) 0 + only size place (owed + (2 + m)) c ≡ (get_or b (sums_start + c) 0 + only size place owed c) + only size place (2 + m) c = omega (arith, only-plus size place owed (2 + m) c) in
        let t : chosen_sum size c xs + only size place (2 + m) c ≡ chosen_sum size c (xs ++ e ∷ []) = ap (λ (x : ℕ). chosen_sum size c xs + x) (sym (share c)) ∙ sym s in
        ap (λ (x : ℕ). x % 2 ^ 64) a ∙ sym (mod-add-mod (g + only size place owed c) (2 ^ 64) y) ∙ ap (λ (x : ℕ). (x + only size place (2 + m) c) % 2 ^ 64) (o.each c l) ∙ mod-add-mod (chosen_sum size c xs) (2 ^ 64) y
        ∙ ap (λ (x : ℕ). x % 2 ^ 64) t
