-- The place for a cleaning's copies, and whether a chunk has a live block.
-- Assumes nothing.
use mathlib.Core.Path.{◌≡◌, refl, sym, ◌∙◌, ap}
use mathlib.Core.Logic.{inl, inr}
use mathlib.Core.Bool.{Bool, true, false}
use mathlib.Core.Option.{some}
use mathlib.Core.List.{List, [], ◌∷◌}
use Prim.Native.Nat.{ℕ, zero, suc, ◌+◌, ◌%◌, ◌≤◌, ◌<◌}
use native.Mathlib.Omega.{arith}
use native.Mathlib.Decide.{ℕ_discrete}
use lib.Dec.{eqb}
use borrow.Author.Tests.{eq-eqb, eqb-true}
use Rattle.spec.specs.declared.Size.{Size}
use Rattle.spec.specs.declared.Size.TheVariants as Z
use Rattle.places.specs.Sizes.{power_of}
use Rattle.spec.specs.Basics.{either, any, is_in}
use Rattle.spec.specs.Places.{chunk_units, first_unit, unit_chunk}
use Rattle.spec.specs.Medium.{Mem as Among}
use Rattle.spec.specs.Log.{Entry}
use Rattle.spec.specs.Contents.{live_blocks}
use Rattle.spec.specs.Plans.{has_space, free_chunk, log_place, has_live}
use Rattle.theory_base.proofs.Lists.{is_in-mem, mem-is_in, not-both}
use Rattle.codec.specs.Units.{unit_at}
use Rattle.codec.proofs.Units.{unit-at}
use Rattle.buffer.specs.Bits.{has_bit}
use Rattle.std.specs.Prelude.{max, Option, Some, None}
use Rattle.directory.specs.Found.{found_of, Stops}
use Rattle.directory.proofs.Search.{taken-before, taken-end, first-here}
use Rattle.directory.proofs.Answer.{found_at, found_nothing}
use Rattle.placing.specs.Found.{place_in, place_of, Sought}
use Rattle.cleaning.specs.Plans.{any_bit}

-- THE PLACE
module _ (size : Size) (ws : List ℕ) (count lines x next : ℕ) (s : Stops (has_space (power_of size) ws lines x) 1 count next) where
  pub place-log : next < count → log_place (power_of size) count ws lines x 1 ≡ some next
  unfolding log_place
  place-log h =
      let e = taken-before (has_space (power_of size) ws lines x) 1 next (λ d u l. s.before d l u) in
      rw (first-here (has_space (power_of size) ws lines x) 1 next count s.behind h e (s.here h))

  pub place-free : count ≤ next → log_place (power_of size) count ws lines x 1 ≡ free_chunk (power_of size) count ws 1
  unfolding log_place
  place-free h =
      let e = taken-before (has_space (power_of size) ws lines x) 1 next (λ d u l. s.before d l u) in
      rw (taken-end (has_space (power_of size) ws lines x) 1 next count s.behind h e)

-- what the code shows
module _ (size : Size) (ws : List ℕ) (count lines x : ℕ) (next : Option ℕ) (s : Sought (has_space (power_of size) ws lines x) 1 count next) where
  pub shows-log : (c : ℕ) → next ≡ Some c → Some (place_in (power_of size) ws c) ≡ place_of (power_of size) ws (log_place (power_of size) count ws lines x 1)
  shows-log c e = rw (place-log size ws count lines x c (rw e at s.stops) (s.inside c e))

  module _ (none' : next ≡ None) (q : Option ℕ) (told : q ≡ found_of (free_chunk (power_of size) count ws 1)) where
    as_free : log_place (power_of size) count ws lines x 1 ≡ free_chunk (power_of size) count ws 1
    as_free = place-free size ws count lines x (max 1 count) (rw none' at s.stops) (omega arith)

    pub shows-free : (c : ℕ) → q ≡ Some c → Some (place_in (power_of size) ws c) ≡ place_of (power_of size) ws (log_place (power_of size) count ws lines x 1)
    shows-free c g = rw (as_free, found_at (free_chunk (power_of size) count ws 1) c (sym told ∙ g))

    pub shows-nowhere : q ≡ None → None ≡ place_of (power_of size) ws (log_place (power_of size) count ws lines x 1)
    shows-nowhere g = rw (as_free, found_nothing (free_chunk (power_of size) count ws 1) (sym told ∙ g))

-- LIVE BLOCKS
pub bit-start : (size : Size) → (b : List ℕ) (u v n m : ℕ) → u ≡ v → n ≡ m → any_bit size b u n ≡ any_bit size b v m
bit-start size b u v n m e f = rw (e, f)

-- one turn of the loop: a bit, and no bit
pub bit-here : (size : Size) → (b : List ℕ) (u n m : ℕ) → m ≡ suc n → has_bit size b u ≡ true → any_bit size b u m ≡ true
bit-here size b u n m e h = rw (e, h)

pub bit-next : (size : Size) → (b : List ℕ) (u v n m : ℕ) → m ≡ suc n → v ≡ suc u → has_bit size b u ≡ false → any_bit size b u m ≡ any_bit size b v n
bit-next size b u v n m e f h = rw (e, f, h)

pub bit-none : (size : Size) → (b : List ℕ) (u m : ℕ) → m ≡ 0 → any_bit size b u m ≡ false
bit-none size b u m e = rw e

-- the bit of the unit that the loop's turn i looks at
pub turn-bit : (size : Size) → (b : List ℕ) (c i u : ℕ) (t : Bool) → i < chunk_units (power_of size) → u ≡ unit_at (power_of size) (c % 512) i → t ≡ has_bit size b u → has_bit size b (first_unit (power_of size) (c % 512) + i) ≡ t
turn-bit size b c i u t l e h = sym (h ∙ ap (has_bit size b) (e ∙ unit-at (power_of size) (c % 512) i (omega arith) l))

bit_at : (size : Size) → (b : List ℕ) (u n v : ℕ) → u ≤ v → v < u + n → has_bit size b v ≡ true → any_bit size b u n ≡ true
bit_at size b u zero v l h e = absurd (omega arith)
bit_at size b u (suc n) v l h e = go (ℕ_discrete v u) (has_bit size b u) refl (λ q. bit_at size b (suc u) n v q (omega arith) e)
  where
    go : Dec (v ≡ u) → (t : Bool) → has_bit size b u ≡ t → (suc u ≤ v → any_bit size b (suc u) n ≡ true) → either t (any_bit size b (suc u) n) ≡ true
    go d true q rec = refl
    go (yes s) false q rec = absurd (not-both (has_bit size b u) (sym (ap (has_bit size b) s) ∙ e) q)
    go (no s) false q rec = rec (omega (arith, s))

bit_found : (size : Size) → (b : List ℕ) (u n : ℕ) → any_bit size b u n ≡ true → (v : ℕ) × (u ≤ v) × (v < u + n) × (has_bit size b v ≡ true)
bit_found size b u zero h = absurd (let z : ◌≡◌ {A = ℕ} 0 1 = cc in omega arith)
bit_found size b u (suc n) h = go (has_bit size b u) refl h (bit_found size b (suc u) n)
  where
    go : (t : Bool) → has_bit size b u ≡ t → either t (any_bit size b (suc u) n) ≡ true → (any_bit size b (suc u) n ≡ true → (v : ℕ) × (suc u ≤ v) × (v < suc u + n) × (has_bit size b v ≡ true)) → (v : ℕ) × (u ≤ v) × (v < u + suc n) × (has_bit size b v ≡ true)
    go true q k rec = (u, omega arith, omega arith, q)
    go false q k rec = let r = rec k in let l = r.1 in let g = r.2 in (r.0, omega arith, omega arith, r.3)

any_found : (test : ℕ → Bool) (xs : List ℕ) → any test xs ≡ true → (v : ℕ) × Among v xs × (test v ≡ true)
any_found test [] h = absurd (let z : ◌≡◌ {A = ℕ} 0 1 = cc in omega arith)
any_found test (x ∷ xs) h = go (test x) refl h (any_found test xs)
  where
    go : (t : Bool) → test x ≡ t → either t (any test xs) ≡ true → (any test xs ≡ true → (v : ℕ) × Among v xs × (test v ≡ true)) → (v : ℕ) × Among v (x ∷ xs) × (test v ≡ true)
    go true q k rec = (x, inl refl, q)
    go false q k rec = let r = rec k in (r.0, inr r.1, r.2)

any_at : (test : ℕ → Bool) (xs : List ℕ) (v : ℕ) → Among v xs → test v ≡ true → any test xs ≡ true
any_at test [] v m h = absurd m
any_at test (x ∷ xs) v (inl e) h = rw (sym (ap test e) ∙ h)
any_at test (x ∷ xs) v (inr m) h = go (test x) (any_at test xs v m h)
  where
    go : (t : Bool) → any test xs ≡ true → either t (any test xs) ≡ true
    go true r = refl
    go false r = r

same_bool : (a b : Bool) → (a ≡ true → b ≡ true) → (b ≡ true → a ≡ true) → a ≡ b
same_bool true b f g = sym (f refl)
same_bool false true f g = g refl
same_bool false false f g = refl

units : (size : Size) (u c : ℕ) → unit_chunk (power_of size) u ≡ c → (first_unit (power_of size) c ≤ u) × (u < first_unit (power_of size) c + chunk_units (power_of size))
unfolding unit_chunk first_unit chunk_units
units Z.Small u c e = (omega arith, omega arith)
units Z.Large u c e = (omega arith, omega arith)

unit-of : (size : Size) (u c : ℕ) → first_unit (power_of size) c ≤ u → u < first_unit (power_of size) c + chunk_units (power_of size) → unit_chunk (power_of size) u ≡ c
unfolding unit_chunk first_unit chunk_units
unit-of Z.Small u c l h = omega arith
unit-of Z.Large u c l h = omega arith

pub bits-live : (size : Size) → (b : List ℕ) (es : List Entry) → ((u : ℕ) → has_bit size b u ≡ is_in u (live_blocks es)) → (c : ℕ) → any_bit size b (first_unit (power_of size) c) (chunk_units (power_of size)) ≡ has_live (power_of size) es c
bits-live size b es says c = same_bool (any_bit size b (first_unit (power_of size) c) (chunk_units (power_of size))) (has_live (power_of size) es c) there back
  where
    there : any_bit size b (first_unit (power_of size) c) (chunk_units (power_of size)) ≡ true → has_live (power_of size) es c ≡ true
    there h =
        let r = bit_found size b (first_unit (power_of size) c) (chunk_units (power_of size)) h in
        any_at (λ u. eqb (unit_chunk (power_of size) u) c) (live_blocks es) r.0 (is_in-mem r.0 (live_blocks es) (sym (says r.0) ∙ r.3))
        (eq-eqb (unit_chunk (power_of size) r.0) c (unit-of size r.0 c r.1 r.2))

    back : has_live (power_of size) es c ≡ true → any_bit size b (first_unit (power_of size) c) (chunk_units (power_of size)) ≡ true
    back h =
        let r = any_found (λ u. eqb (unit_chunk (power_of size) u) c) (live_blocks es) h in
        let e = units size r.0 c (eqb-true (unit_chunk (power_of size) r.0) c r.2) in
        bit_at size b (first_unit (power_of size) c) (chunk_units (power_of size)) r.0 e.0 e.1 (says r.0 ∙ mem-is_in r.0 (live_blocks es) r.1)
