-- What rows of stores and flushes leave in each word, and how many actions they are.
-- Assumes nothing.
use mathlib.Core.Path.{◌≡◌, refl, sym, ◌∙◌, ap}
use mathlib.Core.Logic.{◌⊎◌, inl, inr}
use mathlib.Core.Bool.{Bool, true, false}
use mathlib.Core.List.{List, [], ◌∷◌, ◌++◌}
use Prim.Native.Nat.{ℕ, zero, suc, ◌+◌, ◌≤◌, ◌<◌}
use native.Mathlib.Nat.{le_of_suc-le-suc, not-suc-le-zero}
use native.Mathlib.Omega.{arith}
use native.Mathlib.Decide.{ℕ_discrete, dec_lt}
use lib.Dec.{eqb}
use lib.ListN.{length, get_or}
use borrow.Author.Tests.{eq-eqb}
use Rattle.spec.specs.Basics.{pick}
use Rattle.spec.specs.Places.{base, line_of, directory_word, max_chunks}
use Rattle.spec.specs.Medium.{Cell, fresh, added, marked, drained, Action, Store, Flush, Fence, step, Medium, run, latest, cell_at}
use Rattle.spec.specs.Directory.{role_of, size_in, size_of}
use Rattle.spec.specs.Actions.{writes, flushes, seal_of}
use Rattle.theory_base.proofs.Words as W
use Rattle.theory_base.proofs.Words.{run_cell}
use Rattle.theory_base.proofs.Through.{Each}
use Rattle.theory_base.proofs.Places.{base-low}
use Rattle.theory_log.proofs.Directory.{size_is}
use Rattle.theory_crash.specs.Rest.{Flushed}

-- Each action of a list.
pub each_append : (P : Action → Type 0) (xs ys : List Action) → Each P xs → Each P ys → Each P (xs ++ ys)
each_append P [] ys s t = t
each_append P (a ∷ xs) ys s t = (s.0, each_append P xs ys s.1 t)

pub each_map : (P Q : Action → Type 0) → ((a : Action) → P a → Q a) → (xs : List Action) → Each P xs → Each Q xs
each_map P Q f [] t = tt
each_map P Q f (a ∷ xs) t = (f a t.0, each_map P Q f xs t.1)

pub each-writes : (P : Action → Type 0) (a : ℕ) (vs : List ℕ) → ((k v : ℕ) → a ≤ k → k < a + length vs → P (Store k v)) → Each P (writes a vs)
each-writes P a [] h = tt
each-writes P a (v ∷ vs) h = (h a v (omega arith) (omega arith), each-writes P (suc a) vs (λ k x l u. h k x (omega arith) (omega arith)))

pub each-flushes : (P : Action → Type 0) (l n : ℕ) → ((x : ℕ) → P (Flush x)) → Each P (flushes l n)
each-flushes P l zero h = tt
each-flushes P l (suc n) h = (h l, each-flushes P (suc l) n h)

-- Their number.
pub length-writes : (a : ℕ) (vs : List ℕ) → length (writes a vs) ≡ length vs
length-writes a [] = refl
length-writes a (v ∷ vs) = ap suc (length-writes (suc a) vs)

pub length-flushes : (l n : ℕ) → length (flushes l n) ≡ n
length-flushes l zero = refl
length-flushes l (suc n) = ap suc (length-flushes (suc l) n)

-- Stores, word by word.
pub writes-out : (a : ℕ) (vs : List ℕ) (k : ℕ) (c : Cell) → (k < a) ⊎ (a + length vs ≤ k) → run_cell (writes a vs) k c ≡ c
writes-out a [] k c h = refl
writes-out a (v ∷ vs) k c (inl h) = ap (run_cell (writes (suc a) vs) k) (W.step-store-other a v k c (omega arith)) ∙ writes-out (suc a) vs k c (inl (omega arith))
writes-out a (v ∷ vs) k c (inr h) = ap (run_cell (writes (suc a) vs) k) (W.step-store-other a v k c (omega arith)) ∙ writes-out (suc a) vs k c (inr (omega arith))

pub writes-hit : (a : ℕ) (vs : List ℕ) (k j : ℕ) (c : Cell) → k ≡ a + j → j < length vs → (run_cell (writes a vs) k c).now ≡ get_or vs j 0
writes-hit a [] k j c e h = absurd (not-suc-le-zero h)
writes-hit a (v ∷ vs) k zero c e h =
    ap (λ (d : Cell). d.now) (ap (run_cell (writes (suc a) vs) k) (W.step-store-same a v k c (omega arith)) ∙ writes-out (suc a) vs k (added v c) (inl (omega arith)))
writes-hit a (v ∷ vs) k (suc j) c e h = writes-hit (suc a) vs k j (step (Store a v) k c) (omega arith) (le_of_suc-le-suc h)

-- Flushes, word by word.
pick-now : (b : Bool) (c : Cell) → (pick b (marked c) c).now ≡ c.now
pick-now true c = refl
pick-now false c = refl

pick-newer : (b : Bool) (c : Cell) → c.newer ≡ [] → (pick b (marked c) c).newer ≡ []
pick-newer true c e = refl
pick-newer false c e = e

pub flushes-now : (l n k : ℕ) (c : Cell) → (run_cell (flushes l n) k c).now ≡ c.now
flushes-now l zero k c = refl
flushes-now l (suc n) k c = flushes-now (suc l) n k (step (Flush l) k c) ∙ pick-now (eqb (line_of k) l) c

pub flushes-keep : (l n k : ℕ) (c : Cell) → c.newer ≡ [] → (run_cell (flushes l n) k c).newer ≡ []
flushes-keep l zero k c e = e
flushes-keep l (suc n) k c e = flushes-keep (suc l) n k (step (Flush l) k c) (pick-newer (eqb (line_of k) l) c e)

pub flushes-hit : (l n k : ℕ) (c : Cell) → l ≤ line_of k → line_of k < l + n → (run_cell (flushes l n) k c).newer ≡ []
flushes-hit l zero k c a b = absurd (omega arith)
flushes-hit l (suc n) k c a b = go (dec_lt l (line_of k)) (λ h. flushes-hit (suc l) n k (step (Flush l) k c) h (omega arith))
  where
    go : Dec (l < line_of k) → (l < line_of k → (run_cell (flushes (suc l) n) k (step (Flush l) k c)).newer ≡ []) → (run_cell (flushes (suc l) n) k (step (Flush l) k c)).newer ≡ []
    go (yes h) f = f h
    go (no h) f = flushes-keep (suc l) n k (step (Flush l) k c) (rw (eq-eqb (line_of k) l (omega arith)) refl)

-- a fence settles a flushed word
pub fenced : (c : Cell) (v : ℕ) → c.now ≡ v → c.newer ≡ [] → drained c ≡ fresh v
fenced c v a b = λ i. record { now = a i; newer = b i; older = [] }

-- A word that no action stores to is read as before, and is flushed if it was.
abbrev pub Avoids : ℕ → Action → Type 0
Avoids k (Store a v) = k ≡ a → ⊥
Avoids k (Flush l) = Unit {0}
Avoids k Fence = Unit {0}

pub avoids-run : (as' : List Action) (k : ℕ) (c : Cell) → Each (Avoids k) as' → ((run_cell as' k c).now ≡ c.now) × (c.newer ≡ [] → (run_cell as' k c).newer ≡ [])
avoids-run [] k c t = (refl, λ h. h)
avoids-run (Store a v ∷ rest) k c t =
    let r = avoids-run rest k c t.1 in
    let q = ap (run_cell rest k) (W.step-store-other a v k c t.0) in
    (ap (λ (x : Cell). x.now) q ∙ r.0, λ h. ap (λ (x : Cell). x.newer) q ∙ r.1 h)
avoids-run (Flush l ∷ rest) k c t =
    let r = avoids-run rest k (step (Flush l) k c) t.1 in
    (r.0 ∙ pick-now (eqb (line_of k) l) c, λ h. r.1 (pick-newer (eqb (line_of k) l) c h))
avoids-run (Fence ∷ rest) k c t = let r = avoids-run rest k (drained c) t.1 in (r.0, λ h. r.1 h)

-- Data chunks' words stay flushed under actions that store to no directory word but that of chunk d.
abbrev pub Spares : ℕ → Action → Type 0
Spares d (Store a v) = (a ≡ directory_word d) ⊎ (512 ≤ a)
Spares d (Flush l) = Unit {0}
Spares d Fence = Unit {0}

pub seal-spares : (d w : ℕ) → Each (Spares d) (seal_of d w)
seal-spares d w = (inl refl, (tt, (tt, tt)))

pub spares-avoids : (d c : ℕ) → c < max_chunks → (c ≡ d → ⊥) → (a : Action) → Spares d a → Avoids (directory_word c) a
spares-avoids d c l n (Store a v) (inl e) = λ q. n (omega arith)
spares-avoids d c l n (Store a v) (inr h) = λ q. omega arith
spares-avoids d c l n (Flush x) s = tt
spares-avoids d c l n Fence s = tt

module _ (p : ℕ) (lo : 12 ≤ p) (hi : p ≤ 16) where
  pub flushed-after : (n d : ℕ) (as' : List Action) (m : Medium) → 4 ≤ n → n ≤ max_chunks → length m ≡ base p n → Each (Spares d) as' → Flushed p n m
      → (1 ≤ size_of p (latest (run as' m)) d → (cell_at (run as' m) (directory_word d)).newer ≡ []) → Flushed p n (run as' m)
  flushed-after n d as' m least most long sp f own c a b h = go (ℕ_discrete c d)
    where
      m' : Medium
      m' = run as' m

      inside : directory_word c < length m
      inside = let q = base-low p lo hi n (omega arith) in omega arith

      go : Dec (c ≡ d) → (cell_at m' (directory_word c)).newer ≡ []
      go (yes e) = rw e (own (rw e at h))
      go (no e) =
          let r = avoids-run as' (directory_word c) (cell_at m (directory_word c)) (each_map (Spares d) (Avoids (directory_word c)) (spares-avoids d c (omega arith) e) as' sp) in
          let q = W.cell-run as' m (directory_word c) inside in
          let same : get_or (latest m') (directory_word c) 0 ≡ get_or (latest m) (directory_word c) 0 =
          W.get_or-latest m' (directory_word c) ∙ ap (λ (x : Cell). x.now) q ∙ r.0 ∙ sym (W.get_or-latest m (directory_word c)) in
          let size : size_of p (latest m') c ≡ size_of p (latest m) c = size_is p (latest m') c ∙ ap (λ (w : ℕ). size_in (role_of p w)) same ∙ sym (size_is p (latest m) c) in
          ap (λ (x : Cell). x.newer) q ∙ r.1 (f c a b (rw size at h))
