-- The search over chunks and blocks: the first spare block of all is the first of those still to be looked at.
-- Assumes nothing.
use mathlib.Core.Path.{◌≡◌, refl, sym, ◌∙◌, ap}
use mathlib.Core.Logic.{by_cases}
use mathlib.Core.Bool.{Bool, true, false}
use mathlib.Core.Option.{none, some}
use mathlib.Core.List.{List, [], ◌∷◌, ◌++◌}
use Prim.Native.Nat.{ℕ, suc, ◌+◌, ◌-◌, ◌*◌, ◌/◌, ◌%◌, ◌^◌, ◌≤◌, ◌<◌, min}
use native.Mathlib.Nat.{mul_comm, mul-suc, mul-zero, mul-le-mul_left, mul-le-mul_right, div-mul-le_self, div-zero, div-le_self}
use native.Mathlib.Omega.{arith}
use native.Mathlib.Decide.{ℕ_discrete}
use borrow.Author.Tests.{eq-eqb, ne_eqb, eqb-true, leb-true}
use lib.Dec.{eqb, leb}
use lib.ListN.{length, get_or}
use Rattle.spec.specs.Basics.{pick, both, filter, first, up_from}
use Rattle.spec.specs.Words.{words_of}
use Rattle.spec.specs.Places.{chunk_bytes, chunk_units, chunk_lines, first_unit, unit_chunk, unit_word, directory_word, chunks_in}
use Rattle.spec.specs.Directory.{is_size, role_of, size_in, size_of, size_for}
use Rattle.spec.specs.declared.Role.TheVariants as R
use Rattle.spec.specs.declared.Size.{Size}
use Rattle.spec.specs.declared.Size.TheVariants as Z
use Rattle.spec.specs.Log.{Entry}
use Rattle.places.specs.Sizes.{power_of, power-low, power-high}
use Rattle.spec.specs.Plans.{blocks_of, blocks_from}
use Rattle.theory_base.proofs.Lists.{pick_same, both_l, both_r}
use Rattle.theory_base.proofs.Places.{units-most}
use Rattle.theory_log.proofs.Directory.{size_is}
use Rattle.placing.specs.Blocks.{Says, spare, Spare, first_spare, InImage}

-- how many blocks of s units chunk c has
abbrev pub block_count : Size → List ℕ → ℕ → ℕ → ℕ
block_count size ws s c = pick (eqb (size_of (power_of size) ws c) s) (chunk_units (power_of size) / s) 0

pub none_of : (most : ℕ) (b : Bool) (s : ℕ) → s ≡ 0 → 0 ≡ pick b (most / s) 0
none_of most b s e = sym (rw (e, div-zero most) (pick_same b 0))

pub count_none : (size : Size) (ws : List ℕ) (s c : ℕ) → s ≡ 0 → 0 ≡ block_count size ws s c
count_none size ws s c e = none_of (chunk_units (power_of size)) (eqb (size_of (power_of size) ws c) s) s e

pub count-some : (size : Size) (ws : List ℕ) (s c : ℕ) → size_of (power_of size) ws c ≡ s → chunk_units (power_of size) / s ≡ block_count size ws s c
count-some size ws s c e = sym (rw (eq-eqb (size_of (power_of size) ws c) s e))

pub count-other : (size : Size) (ws : List ℕ) (s c : ℕ) → (size_of (power_of size) ws c ≡ s → ⊥) → 0 ≡ block_count size ws s c
count-other size ws s c n = sym (rw (ne_eqb (size_of (power_of size) ws c) s n))

pub all_fit : (most s : ℕ) → s * (most / s) ≤ most
all_fit most s = rw (mul_comm s (most / s)) (div-mul-le_self most s)

-- the directory word of a data chunk, by its block size
size_word : (size : Size) (w : ℕ) → 1 ≤ size_in (role_of (power_of size) w) → (w ≡ 2 + 256 * size_in (role_of (power_of size) w)) × (size_in (role_of (power_of size) w) ≤ chunk_units (power_of size))
unfolding role_of is_size
size_word size w h = go (eqb (w % 256) 0) (eqb (w / 256) 0) (eqb (w % 256) 1) (both (leb 1 (w / 256)) (leb (w / 256) (chunk_lines (power_of size)))) (eqb (w % 256) 2) (is_size (power_of size) (w / 256)) (eqb-true (w % 256) 2) (size-most (w / 256)) h
  where
    size-most : (s : ℕ) → is_size (power_of size) s ≡ true → s ≤ chunk_units (power_of size)
    size-most s e = leb-true s (chunk_units (power_of size)) (both_l (leb s (chunk_units (power_of size))) (eqb (size_for (power_of size) s) s) (both_r (leb 2 s) (both (leb s (chunk_units (power_of size))) (eqb (size_for (power_of size) s) s)) e))

    go : (b0 b1 b2 b3 b4 b5 : Bool) → (b4 ≡ true → w % 256 ≡ 2) → (b5 ≡ true → w / 256 ≤ chunk_units (power_of size))
        → 1 ≤ size_in (pick b0 (pick b1 R.Free R.Wrong) (pick b2 (pick b3 (R.Log (w / 256)) R.Wrong) (pick b4 (pick b5 (R.Data (w / 256)) R.Wrong) R.Wrong)))
        → (w ≡ 2 + 256 * size_in (pick b0 (pick b1 R.Free R.Wrong) (pick b2 (pick b3 (R.Log (w / 256)) R.Wrong) (pick b4 (pick b5 (R.Data (w / 256)) R.Wrong) R.Wrong))))
        × (size_in (pick b0 (pick b1 R.Free R.Wrong) (pick b2 (pick b3 (R.Log (w / 256)) R.Wrong) (pick b4 (pick b5 (R.Data (w / 256)) R.Wrong) R.Wrong))) ≤ chunk_units (power_of size))
    go true true b2 b3 b4 b5 e f u = absurd (omega arith)
    go true false b2 b3 b4 b5 e f u = absurd (omega arith)
    go false b1 true true b4 b5 e f u = absurd (omega arith)
    go false b1 true false b4 b5 e f u = absurd (omega arith)
    go false b1 false b3 true true e f u = (let q = e refl in omega arith, f refl)
    go false b1 false b3 true false e f u = absurd (omega arith)
    go false b1 false b3 false b5 e f u = absurd (omega arith)

-- how many blocks the code counts in chunk c
pub record Counts (size : Size) (ws : List ℕ) (s c k : ℕ) : Type 0 where
  pub is : k ≡ block_count size ws s c
  pub fits : s * k ≤ chunk_units (power_of size)
  pub few : k ≤ chunk_units (power_of size)
  pub some' : 1 ≤ k → (size_of (power_of size) ws c ≡ s) × (1 ≤ s)

pub counted : (size : Size) (ws : List ℕ) (s c word most k : ℕ) → word ≡ 2 + 256 * (s % 2 ^ 56) → most ≡ pick (eqb (size_in (role_of (power_of size) word)) s) (chunk_units (power_of size) / s) 0
    → k ≡ pick (eqb (get_or ws (directory_word c) 0) word) most 0 → Counts size ws s c k
counted size ws s c word most k ew em ek = by_cases (ℕ_discrete (get_or ws (directory_word c) 0) word) same other
  where
    none' : k ≡ 0 → 0 ≡ block_count size ws s c → Counts size ws s c k
    none' z e = record { is = z ∙ e; fits = rw z (let q = mul-zero s in omega arith); few = omega arith; some' = λ h. absurd (omega arith) }

    same : get_or ws (directory_word c) 0 ≡ word → Counts size ws s c k
    same e =
        let q : size_in (role_of (power_of size) word) ≡ size_of (power_of size) ws c = ap (λ (x : ℕ). size_in (role_of (power_of size) x)) (sym e) ∙ sym (size_is (power_of size) ws c) in
        let z : k ≡ block_count size ws s c = ek ∙ rw (eq-eqb (get_or ws (directory_word c) 0) word e) (em ∙ rw q) in
        by_cases (ℕ_discrete (size_of (power_of size) ws c) s)
        (λ y. by_cases (ℕ_discrete s 0)
        (λ x. none' (z ∙ sym (count_none size ws s c x)) (count_none size ws s c x))
        (λ x. let m : k ≡ chunk_units (power_of size) / s = z ∙ sym (count-some size ws s c y) in
        record { is = z; fits = rw m (all_fit (chunk_units (power_of size)) s); few = rw m (div-le_self (chunk_units (power_of size)) s); some' = λ h. (y, omega (arith, x)) }))
        (λ n. none' (z ∙ sym (count-other size ws s c n)) (count-other size ws s c n))

    other : (get_or ws (directory_word c) 0 ≡ word → ⊥) → Counts size ws s c k
    other n =
        let z : k ≡ 0 = ek ∙ rw (ne_eqb (get_or ws (directory_word c) 0) word n) in
        by_cases (ℕ_discrete s 0)
        (λ x. none' z (count_none size ws s c x))
        (λ x. none' z (count-other size ws s c (λ y.
        let q : size_in (role_of (power_of size) (get_or ws (directory_word c) 0)) ≡ s = sym (size_is (power_of size) ws c) ∙ y in
        let w = size_word size (get_or ws (directory_word c) 0) (omega (arith, x)) in
        let w0 = w.0 in
        let w1 = w.1 in
        let most = units-most (power_of size) (power-low size) (power-high size) in
        n (omega arith))))

-- block j of k blocks of s units that fit into a chunk ends there
pub block-ends : (most s j k : ℕ) → j < k → s * k ≤ most → s * j + s ≤ most
block-ends most s j k l h = let a : s * suc j ≤ s * k = mul-le-mul_left s l in let b = mul-suc s j in omega arith

-- its unit, as the search makes it; the search counts no more than so many
pub block-unit : (size : Size) (whole s c j : ℕ) → whole ≡ chunk_units (power_of size) → whole * c + s * j ≡ first_unit (power_of size) c + s * j
unfolding first_unit
block-unit size whole s c j e = ap (λ (x : ℕ). x + s * j) (mul_comm whole c ∙ ap (λ (x : ℕ). c * x) e)

pub chunk_start : (whole c : ℕ) → whole ≤ 256 → whole * c ≤ 256 * c
chunk_start whole c h = mul-le-mul_right c h

module _ (size : Size) (image : List ℕ) (n s : ℕ) (b : List ℕ) (words : ℕ) where
  abbrev ws : List ℕ
  ws = words_of image

  -- the first spare block of all is the first of these
  abbrev pub Left : List ℕ → Type 0
  Left us = (es items : List Entry) → Says size b words es items → first_spare (power_of size) n ws es items s ≡ first (filter (spare es items) us)

  -- from chunk c on; from block j of the k blocks of chunk c on
  abbrev pub from_chunk : ℕ → List ℕ
  from_chunk c = blocks_from (power_of size) ws s (up_from c (n - c))

  abbrev pub from_block : ℕ → ℕ → ℕ → List ℕ
  from_block c k j = blocks_of (power_of size) s (first_unit (power_of size) c + s * j) (k - j) ++ from_chunk (suc c)

  pub left-start : Left (from_chunk 1)
  left-start es items g = refl

  open-chunk : (c k : ℕ) → c < n → k ≡ block_count size ws s c → from_chunk c ≡ from_block c k 0
  open-chunk c k l e =
      let m : n - c ≡ suc (n - suc c) = omega arith in
      let z : k - 0 ≡ k = omega arith in
      let f : first_unit (power_of size) c + s * 0 ≡ first_unit (power_of size) c = let q = mul-zero s in omega arith in
      rw (m, z, f, e) (go (eqb (size_of (power_of size) ws c) s))
    where
      go : (t : Bool) → pick t (blocks_of (power_of size) s (first_unit (power_of size) c) (chunk_units (power_of size) / s)) [] ++ from_chunk (suc c) ≡ blocks_of (power_of size) s (first_unit (power_of size) c) (pick t (chunk_units (power_of size) / s) 0) ++ from_chunk (suc c)
      go true = refl
      go false = refl

  pub left_open : (c k : ℕ) → c < n → k ≡ block_count size ws s c → Left (from_chunk c) → Left (from_block c k 0)
  left_open c k l e p es items g = p es items g ∙ ap (λ (us : List ℕ). first (filter (spare es items) us)) (open-chunk c k l e)

  -- one block more
  next-block : (c k j : ℕ) → j < k → from_block c k j ≡ (first_unit (power_of size) c + s * j) ∷ from_block c k (suc j)
  next-block c k j l =
      let m : k - j ≡ suc (k - suc j) = omega arith in
      let f : first_unit (power_of size) c + s * suc j ≡ first_unit (power_of size) c + s * j + s = let q = mul-suc s j in omega arith in
      rw (m, f)

  pub left-next : (c k j u : ℕ) → j < k → u ≡ first_unit (power_of size) c + s * j → Spare size b words u false → Left (from_block c k j) → Left (from_block c k (j + 1))
  left-next c k j u l e t p es items g =
      let q : false ≡ spare es items (first_unit (power_of size) c + s * j) = t es items g ∙ ap (spare es items) e in
      let z : j + 1 ≡ suc j = omega arith in
      rw z (p es items g ∙ ap (λ (us : List ℕ). first (filter (spare es items) us)) (next-block c k j l) ∙ ap (λ (x : Bool). first (pick x ((first_unit (power_of size) c + s * j) ∷ filter (spare es items) (from_block c k (suc j))) (filter (spare es items) (from_block c k (suc j))))) (sym q))

  pub left_here : (c k j u : ℕ) → j < k → u ≡ first_unit (power_of size) c + s * j → Spare size b words u true → Left (from_block c k j) → (es items : List Entry) → Says size b words es items → first_spare (power_of size) n ws es items s ≡ some u
  left_here c k j u l e t p es items g =
      let q : true ≡ spare es items (first_unit (power_of size) c + s * j) = t es items g ∙ ap (spare es items) e in
      p es items g ∙ ap (λ (us : List ℕ). first (filter (spare es items) us)) (next-block c k j l) ∙ ap (λ (x : Bool). first (pick x ((first_unit (power_of size) c + s * j) ∷ filter (spare es items) (from_block c k (suc j))) (filter (spare es items) (from_block c k (suc j))))) (sym q) ∙ ap some (sym e)

  -- no block more in the chunk, and no chunk more
  pub left-close : (c k j : ℕ) → k ≤ j → Left (from_block c k j) → Left (from_chunk (c + 1))
  left-close c k j l p es items g =
      let m : k - j ≡ 0 = omega arith in
      let z : c + 1 ≡ suc c = omega arith in
      rw z (rw m at (p es items g))

  pub left_end : (c : ℕ) → n ≤ c → Left (from_chunk c) → (es items : List Entry) → Says size b words es items → first_spare (power_of size) n ws es items s ≡ none
  left_end c l p es items g =
      let m : n - c ≡ 0 = omega arith in
      rw m at (p es items g)

-- WHAT HOLDS OF THE BLOCK ANYWAY
at-chunk : (size : Size) (bytes n count c i s u : ℕ) → n ≡ min count (chunks_in (power_of size) bytes) → c < n → i + s ≤ chunk_units (power_of size) → 1 ≤ s → u ≡ first_unit (power_of size) c + i
    → (unit_chunk (power_of size) u ≡ c) × (c < count) × (8 * unit_word (u + s) ≤ bytes)
unfolding unit_chunk first_unit chunk_units chunks_in chunk_bytes
at-chunk Z.Small bytes n count c i s u en hc e hs eu = (omega arith, omega arith, omega arith)
at-chunk Z.Large bytes n count c i s u en hc e hs eu = (omega arith, omega arith, omega arith)

pub in_image : (size : Size) (image : List ℕ) (n count s c j k u : ℕ) → n ≡ min count (chunks_in (power_of size) (length image)) → 1 ≤ c → c < n → j < k → s * k ≤ chunk_units (power_of size) → u ≡ first_unit (power_of size) c + s * j → 1 ≤ s
    → size_of (power_of size) (words_of image) c ≡ s → InImage (power_of size) image count s u
in_image size image n count s c j k u en lc hc hj hk eu hs es =
    let e = block-ends (chunk_units (power_of size)) s j k hj hk in
    let x = at-chunk size (length image) n count c (s * j) s u en hc e hs eu in
    record { some' = hs; low = rw x.0 lc; high = rw x.0 x.1; ends = x.2; size = rw x.0 es }
