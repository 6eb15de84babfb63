-- The chunk that a commit or a cleaning writes to: a log chunk with space, or a free one.
-- Assumes nothing.
use mathlib.Core.Path.{◌≡◌, refl, sym, ◌∙◌, ap}
use mathlib.Core.Logic.{inl, inr}
use mathlib.Core.Bool.{Bool, true, false}
use mathlib.Core.Option.{Option, none, some}
use mathlib.Core.List.{List, [], ◌∷◌}
use Prim.Native.Nat.{ℕ, zero, suc, ◌+◌, ◌-◌, ◌≤◌, ◌<◌}
use native.Mathlib.Omega.{arith}
use lib.Dec.{eqb, leb}
use lib.ListN.{length}
use borrow.Author.Tests.{eqb-false, leb-true}
use Rattle.spec.specs.Basics.{pick, both, negate, up_from, filter, first}
use Rattle.spec.specs.Places.{chunk_lines}
use Rattle.spec.specs.Medium.{Mem as Among}
use Rattle.spec.specs.Directory.{is_free, is_log, role_at, lines_of, free_chunks}
use Rattle.spec.specs.Plans.{free_chunk, has_space, or_else, log_place}
use Rattle.theory_base.proofs.Lists.{both_l, both_r, not-both}
use Rattle.theory_log.proofs.Directory.{lines-is, size_is}
use Rattle.theory_crash.specs.Batch.{Place}
use Rattle.theory_crash.proofs.Directory.{free-says, log-says}

-- The numbers from a on, and the first of them that a test takes.
pub up_from-in : (a n c : ℕ) → Among c (up_from a n) → (a ≤ c) × (c < a + n)
up_from-in a zero c m = absurd m
up_from-in a (suc n) c (inl e) = (omega arith, omega arith)
up_from-in a (suc n) c (inr m) = let r = up_from-in (suc a) n c m in let l = r.0 in let u = r.1 in (omega arith, omega arith)

pub first-filter : (test : ℕ → Bool) (xs : List ℕ) (c : ℕ) → first (filter test xs) ≡ some c → Among c xs × (test c ≡ true)
first-filter test [] c h = absurd (let z : ◌≡◌ {A = ℕ} 0 1 = cc in omega arith)
first-filter test (x ∷ xs) c h = go (test x) refl h (first-filter test xs c)
  where
    go : (b : Bool) → test x ≡ b → first (pick b (x ∷ filter test xs) (filter test xs)) ≡ some c → (first (filter test xs) ≡ some c → Among c xs × (test c ≡ true)) → Among c (x ∷ xs) × (test c ≡ true)
    go true q e rec = let s : c ≡ x = cc in (inl s, ap test s ∙ q)
    go false q e rec = let r = rec e in (inr r.0, r.1)

pub negate-true : (b : Bool) → negate b ≡ true → b ≡ false
negate-true true h = sym h
negate-true false h = refl

-- a free chunk of the image
pub free-chunk : (p n : ℕ) (ws : List ℕ) (needed c : ℕ) → free_chunk p n ws needed ≡ some c → (1 ≤ c) × (c < n) × (is_free (role_at p ws c) ≡ true)
free-chunk p n ws needed c h = go (leb needed (length (free_chunks p n ws))) h
  where
    go : (b : Bool) → pick b (first (free_chunks p n ws)) none ≡ some c → (1 ≤ c) × (c < n) × (is_free (role_at p ws c) ≡ true)
    go true e =
        let f = first-filter (λ d. is_free (role_at p ws d)) (up_from 1 (n - 1)) c e in
        let i = up_from-in 1 (n - 1) c f.0 in
        let l = i.0 in
        let u = i.1 in
        (l, omega arith, f.1)
    go false e = absurd (let z : ◌≡◌ {A = ℕ} 0 1 = cc in omega arith)

-- THE PLACE found for b lines has space for them, and is not chunk x, unless x is free
pub log-place : (p n : ℕ) (ws : List ℕ) (b x needed d : ℕ) → b ≤ chunk_lines p → log_place p n ws b x needed ≡ some d → Place p n d b ws × (is_free (role_at p ws x) ≡ false → x ≡ d → ⊥)
unfolding log_place
log-place p n ws b x needed d fits h = go (first (filter (has_space p ws b x) (up_from 1 (n - 1)))) refl h
  where
    Goal : Type 0
    Goal = Place p n d b ws × (is_free (role_at p ws x) ≡ false → x ≡ d → ⊥)

    go : (q : Option ℕ) → first (filter (has_space p ws b x) (up_from 1 (n - 1))) ≡ q → or_else q (free_chunk p n ws needed) ≡ some d → Goal
    go (some c) e k =
        let s : c ≡ d = cc in
        let f = first-filter (has_space p ws b x) (up_from 1 (n - 1)) d (e ∙ k) in
        let i = up_from-in 1 (n - 1) d f.0 in
        let l = i.0 in
        let u = i.1 in
        let log = both_l (is_log (role_at p ws d)) (both (negate (eqb d x)) (leb (lines_of p ws d + b) (chunk_lines p))) f.1 in
        let rest = both_r (is_log (role_at p ws d)) (both (negate (eqb d x)) (leb (lines_of p ws d + b) (chunk_lines p))) f.1 in
        let other = eqb-false d x (negate-true (eqb d x) (both_l (negate (eqb d x)) (leb (lines_of p ws d + b) (chunk_lines p)) rest)) in
        let space = leb-true (lines_of p ws d + b) (chunk_lines p) (both_r (negate (eqb d x)) (leb (lines_of p ws d + b) (chunk_lines p)) rest) in
        (record { low = l; high = omega arith; no-data = size_is p ws d ∙ log-says (role_at p ws d) log; fit = space }, λ used same. other (sym same))
    go none e k =
        let f = free-chunk p n ws needed d k in
        let r = free-says (role_at p ws d) f.2 in
        let z : lines_of p ws d ≡ 0 = lines-is p ws d ∙ r.0 in (
          record { low = f.0; high = f.1; no-data = size_is p ws d ∙ r.1; fit = omega arith },
          λ used same. not-both (is_free (role_at p ws d)) f.2 (sym (ap (λ (c : ℕ). is_free (role_at p ws c)) same) ∙ used),
        )
