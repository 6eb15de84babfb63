-- Where a large value goes: what is found is a block that no top put and no staged item points to, or a free chunk.
-- Assumes nothing.
use mathlib.Core.Path.{◌≡◌, refl, ◌∙◌, ap}
use mathlib.Core.Logic.{◌⊎◌, inl, inr}
use mathlib.Core.Bool.{Bool, true, false}
use mathlib.Core.Option.{Option, none, some}
use mathlib.Core.List.{List, [], ◌∷◌, ◌++◌, map}
use Prim.Native.Nat.{ℕ, zero, suc, ◌+◌, ◌-◌, ◌*◌, ◌/◌, ◌≤◌, ◌<◌}
use native.Mathlib.Nat.{zero-mul, suc-mul}
use native.Mathlib.Omega.{arith}
use lib.Dec.{eqb}
use borrow.Author.Tests.{eqb-true}
use Rattle.spec.specs.Basics.{pick, negate, up_from, filter, first, is_in}
use Rattle.spec.specs.Places.{chunk_units, first_unit, unit_chunk}
use Rattle.spec.specs.Medium.{Mem as Among}
use Rattle.spec.specs.Directory.{size_of, is_free, role_at}
use Rattle.spec.specs.Log.{Entry}
use Rattle.spec.specs.Blocks.{pointed}
use Rattle.spec.specs.Contents.{is_top, pointers, live_blocks}
use Rattle.spec.specs.Plans.{blocks_of, blocks_from, InData, InFree, free_chunk, or_free, slot_for}
use Rattle.theory_base.proofs.Lists.{not-both, mem-is_in, number-l, number-r, number-cases}
use Rattle.theory_base.proofs.Sizes.{block_at, block-starts}
use Rattle.theory_log.specs.Contents.{Mem, Top}
use Rattle.theory_log.proofs.Contents.{filter-mem}
use Rattle.theory_log.proofs.Tops.{top-is}
use Rattle.theory_crash.specs.Stage.{Slot}
use Rattle.theory_plans.proofs.LogPlace.{up_from-in, first-filter, negate-true, free-chunk}

-- The blocks of a chunk, and of chunks.
block_of : (p s a j u : ℕ) → Among u (blocks_of p s a j) → (i : ℕ) × (i < j) × (u ≡ a + i * s)
block_of p s a zero u m = absurd m
block_of p s a (suc j) u (inl e) = let z = zero-mul s in (0, omega arith, omega arith)
block_of p s a (suc j) u (inr m) = let r = block_of p s (a + s) j u m in let i = r.0 in let l = r.1 in let e = r.2 in let z = suc-mul i s in (suc i, omega arith, omega arith)

block-from : (p : ℕ) (ws : List ℕ) (s : ℕ) (cs : List ℕ) (u : ℕ) → Among u (blocks_from p ws s cs)
    → (c : ℕ) × Among c cs × (size_of p ws c ≡ s) × ((i : ℕ) × (i < chunk_units p / s) × (u ≡ first_unit p c + i * s))
block-from p ws s [] u m = absurd m
block-from p ws s (c ∷ cs) u m = go (eqb (size_of p ws c) s) (eqb-true (size_of p ws c) s) m (block-from p ws s cs u)
  where
    Goal : List ℕ → Type 0
    Goal ds = (d : ℕ) × Among d ds × (size_of p ws d ≡ s) × ((i : ℕ) × (i < chunk_units p / s) × (u ≡ first_unit p d + i * s))

    go : (b : Bool) → (b ≡ true → size_of p ws c ≡ s) → Among u (pick b (blocks_of p s (first_unit p c) (chunk_units p / s)) [] ++ blocks_from p ws s cs) → (Among u (blocks_from p ws s cs) → Goal cs) → Goal (c ∷ cs)
    go false q t rec = let r = rec t in (r.0, inr r.1, r.2, r.3)
    go true q t rec = two (number-cases u (blocks_of p s (first_unit p c) (chunk_units p / s)) (blocks_from p ws s cs) t)
      where
        two : Among u (blocks_of p s (first_unit p c) (chunk_units p / s)) ⊎ Among u (blocks_from p ws s cs) → Goal (c ∷ cs)
        two (inl a) = (c, inl refl, q refl, block_of p s (first_unit p c) (chunk_units p / s) u a)
        two (inr a) = let r = rec a in (r.0, inr r.1, r.2, r.3)

-- The blocks that entries point to.
pub pointer-mem : (e : Entry) (es : List Entry) → Mem e es → pointed e ≡ true → Among e.field (pointers es)
pointer-mem e es m h = fields (filter pointed es) (filter-mem pointed e es m h)
  where
    fields : (xs : List Entry) → Mem e xs → Among e.field (map (λ (f : Entry). f.field) xs)
    fields [] t = absurd t
    fields (x ∷ xs) (inl q) = inl (ap (λ (y : Entry). y.field) q)
    fields (x ∷ xs) (inr t) = inr (fields xs t)

live-mem : (es : List Entry) (e : Entry) → Top es e → pointed e ≡ true → Among e.field (live_blocks es)
live-mem es e t h = pointer-mem e (filter (is_top es) es) (filter-mem (is_top es) e es t.0 (top-is es e t)) h

-- the block found, if any
abbrev pub spare : ℕ → ℕ → List ℕ → List Entry → List Entry → ℕ → Option ℕ
spare p n ws es items s = first (filter (λ u. negate (is_in u (live_blocks es ++ pointers items))) (blocks_from p ws s (up_from 1 (n - 1))))

-- A FREE CHUNK, where no block was found
pub slot-free : (p n : ℕ) (ws : List ℕ) (es items : List Entry) (s c : ℕ) → slot_for p n ws es items s ≡ InFree c → (1 ≤ c) × (c < n) × (is_free (role_at p ws c) ≡ true)
unfolding slot_for
slot-free p n ws es items s c h = go (spare p n ws es items s) (free_chunk p n ws 3) refl h
  where
    go : (q o : Option ℕ) → free_chunk p n ws 3 ≡ o → or_free q o ≡ InFree c → (1 ≤ c) × (c < n) × (is_free (role_at p ws c) ≡ true)
    go (some u) o f e = absurd (let z : ◌≡◌ {A = ℕ} 0 1 = cc in omega arith)
    go none none f e = absurd (let z : ◌≡◌ {A = ℕ} 0 1 = cc in omega arith)
    go none (some d) f e = free-chunk p n ws 3 c (let q : d ≡ c = cc in f ∙ ap some q)

-- A BLOCK of a data chunk that no top put points to, and no staged item
pub slot-data : (p : ℕ) → 12 ≤ p → p ≤ 16 → (n : ℕ) (ws : List ℕ) (es items : List Entry) (s u : ℕ) → 1 ≤ s → slot_for p n ws es items s ≡ InData u
    → Slot p n ws es u s × ((e : Entry) → Mem e items → pointed e ≡ true → e.field ≡ u → ⊥)
unfolding slot_for
slot-data p lo hi n ws es items s u some' h = go (spare p n ws es items s) (free_chunk p n ws 3) refl h
  where
    taken : List ℕ
    taken = live_blocks es ++ pointers items

    Goal : Type 0
    Goal = Slot p n ws es u s × ((e : Entry) → Mem e items → pointed e ≡ true → e.field ≡ u → ⊥)

    found : spare p n ws es items s ≡ some u → Goal
    found e =
        let f = first-filter (λ v. negate (is_in v taken)) (blocks_from p ws s (up_from 1 (n - 1))) u e in
        let b = block-from p ws s (up_from 1 (n - 1)) u f.0 in
        let c = b.0 in
        let i = up_from-in 1 (n - 1) c b.1 in
        let low = i.0 in
        let high = i.1 in
        let j = b.3.0 in
        let at = block_at p lo hi c s j some' b.3.1 in
        let starts = block-starts p lo hi c s j some' b.3.1 in
        let place : u ≡ first_unit p c + j * s = b.3.2 in
        let chunk : unit_chunk p u ≡ c = ap (unit_chunk p) place ∙ at.0 in
        let out : Among u taken → ⊥ = λ t. not-both (is_in u taken) (mem-is_in u taken t) (negate-true (is_in u taken) f.1) in (
          record {
            low = rw chunk low;
            high = rw chunk (omega arith);
            size = ap (size_of p ws) chunk ∙ b.2;
            some' = some';
            ends = rw place starts.1;
            aligned = rw place starts.0;
            dead = λ x t pt q. out (number-l u (live_blocks es) (pointers items) (rw q at (live-mem es x t pt)));
          },
          λ x m pt q. out (number-r u (live_blocks es) (pointers items) (rw q at (pointer-mem x items m pt))),
        )

    go : (q o : Option ℕ) → spare p n ws es items s ≡ q → or_free q o ≡ InData u → Goal
    go (some v) o f e = found (let q : v ≡ u = cc in f ∙ ap some q)
    go none none f e = absurd (let z : ◌≡◌ {A = ℕ} 0 1 = cc in omega arith)
    go none (some d) f e = absurd (let z : ◌≡◌ {A = ℕ} 0 1 = cc in omega arith)
