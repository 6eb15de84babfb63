-- The laws of the medium, word by word.
-- Assumes nothing.
use mathlib.Core.Path.{◌≡◌, refl, sym, ◌∙◌, ap, ap₂}
use mathlib.Core.Logic.{inl, inr}
use mathlib.Core.List.{List, [], ◌∷◌, ◌++◌}
use Prim.Native.Nat.{ℕ, zero, suc, ◌+◌, ◌<◌}
use native.Mathlib.Nat.{add-zero, zero-add, add-suc, suc-add, le_of_suc-le-suc, not-suc-le-zero}
use native.Mathlib.Omega.{arith}
use lib.Dec.{eqb}
use lib.ListN.{length, get_or, set}
use borrow.Author.Tests.{eq-eqb, ne_eqb}
use Rattle.theory_base.proofs.Lists.{pick_same}
use Rattle.spec.specs.Places.{line_of}
use Rattle.spec.specs.Medium.{Cell, fresh, values, added, marked, drained, Action, Store, Flush, Fence, step, Medium, apply_from, apply, run, latest, cell_at, Mem, CanCutTo, cut_from, cut, settled_at}

-- Lengths.
pub length-apply_from : (a : Action) (i : ℕ) (m : Medium) → length (apply_from a i m) ≡ length m
length-apply_from a i [] = refl
length-apply_from a i (c ∷ cs) = ap suc (length-apply_from a (suc i) cs)

pub length-apply : (a : Action) (m : Medium) → length (apply a m) ≡ length m
length-apply a m = length-apply_from a 0 m

pub length_run : (as' : List Action) (m : Medium) → length (run as' m) ≡ length m
length_run [] m = refl
length_run (a ∷ rest) m = length_run rest (apply a m) ∙ length-apply a m

pub length-latest : (m : Medium) → length (latest m) ≡ length m
length-latest [] = refl
length-latest (c ∷ cs) = ap suc (length-latest cs)

-- An action, word by word.
pub cell-apply_from : (a : Action) (i : ℕ) (m : Medium) (k : ℕ) → k < length m → cell_at (apply_from a i m) k ≡ step a (i + k) (cell_at m k)
cell-apply_from a i [] k h = absurd (not-suc-le-zero h)
cell-apply_from a i (c ∷ cs) zero h = rw add-zero
cell-apply_from a i (c ∷ cs) (suc k) h = rw (add-suc, ← suc-add) (cell-apply_from a (suc i) cs k (le_of_suc-le-suc h))

pub cell-apply : (a : Action) (m : Medium) (k : ℕ) → k < length m → cell_at (apply a m) k ≡ step a k (cell_at m k)
cell-apply a m k h = rw zero-add at (cell-apply_from a 0 m k h)

-- Many actions, word by word.
abbrev pub run_cell : List Action → ℕ → Cell → Cell
run_cell [] k c = c
run_cell (a ∷ rest) k c = run_cell rest k (step a k c)

pub cell-run : (as' : List Action) (m : Medium) (k : ℕ) → k < length m → cell_at (run as' m) k ≡ run_cell as' k (cell_at m k)
cell-run [] m k h = refl
cell-run (a ∷ rest) m k h = cell-run rest (apply a m) k (rw length-apply h) ∙ ap (run_cell rest k) (cell-apply a m k h)

pub run-append : (xs ys : List Action) (m : Medium) → run (xs ++ ys) m ≡ run ys (run xs m)
run-append [] ys m = refl
run-append (a ∷ xs) ys m = run-append xs ys (apply a m)

pub run_cell-append : (xs ys : List Action) (k : ℕ) (c : Cell) → run_cell (xs ++ ys) k c ≡ run_cell ys k (run_cell xs k c)
run_cell-append [] ys k c = refl
run_cell-append (a ∷ xs) ys k c = run_cell-append xs ys k (step a k c)

-- One action at one word.
pub step-store-same : (a v k : ℕ) (c : Cell) → k ≡ a → step (Store a v) k c ≡ added v c
step-store-same a v k c e = rw (eq-eqb k a e)

pub step-store-other : (a v k : ℕ) (c : Cell) → (k ≡ a → ⊥) → step (Store a v) k c ≡ c
step-store-other a v k c n = rw (ne_eqb k a n)

pub step-flush-hit : (l k : ℕ) (c : Cell) → line_of k ≡ l → step (Flush l) k c ≡ marked c
step-flush-hit l k c e = rw (eq-eqb (line_of k) l e)

pub step-flush-fresh : (l k v : ℕ) → step (Flush l) k (fresh v) ≡ fresh v
step-flush-fresh l k v = pick_same (eqb (line_of k) l) (fresh v)

-- a store elsewhere, any flush and any fence keep a settled cell
pub keeps-flush : (l : ℕ) (m : Medium) (k v : ℕ) → k < length m → cell_at m k ≡ fresh v → cell_at (apply (Flush l) m) k ≡ fresh v
keeps-flush l m k v h e = cell-apply (Flush l) m k h ∙ ap (step (Flush l) k) e ∙ step-flush-fresh l k v

pub keeps-fence : (m : Medium) (k v : ℕ) → k < length m → cell_at m k ≡ fresh v → cell_at (apply Fence m) k ≡ fresh v
keeps-fence m k v h e = cell-apply Fence m k h ∙ ap drained e

pub keeps-store : (a x : ℕ) (m : Medium) (k : ℕ) → k < length m → (k ≡ a → ⊥) → cell_at (apply (Store a x) m) k ≡ cell_at m k
keeps-store a x m k h n = cell-apply (Store a x) m k h ∙ step-store-other a x k (cell_at m k) n

-- flushed, then fenced: settled
pub flush-fence : (c : Cell) → drained (marked c) ≡ fresh c.now
flush-fence c = refl

-- What the processor reads.
pub get_or-latest : (m : Medium) (k : ℕ) → get_or (latest m) k 0 ≡ (cell_at m k).now
get_or-latest [] k = refl
get_or-latest (c ∷ cs) zero = refl
get_or-latest (c ∷ cs) (suc k) = get_or-latest cs k

latest-store-past : (a v i : ℕ) (m : Medium) → a < i → latest (apply_from (Store a v) i m) ≡ latest m
latest-store-past a v i [] h = refl
latest-store-past a v i (c ∷ cs) h = rw (ne_eqb i a (omega arith)) (ap (λ (l : List ℕ). c.now ∷ l) (latest-store-past a v (suc i) cs (omega arith)))

pub latest-store_from : (a v i : ℕ) (m : Medium) (k : ℕ) → a ≡ i + k → latest (apply_from (Store a v) i m) ≡ set (latest m) k v
latest-store_from a v i [] k e = refl
latest-store_from a v i (c ∷ cs) zero e = rw (eq-eqb i a (omega arith)) (ap (λ (l : List ℕ). v ∷ l) (latest-store-past a v (suc i) cs (omega arith)))
latest-store_from a v i (c ∷ cs) (suc k) e = rw (ne_eqb i a (omega arith)) (ap (λ (l : List ℕ). c.now ∷ l) (latest-store_from a v (suc i) cs k (omega arith)))

pub latest-store : (a v : ℕ) (m : Medium) → latest (apply (Store a v) m) ≡ set (latest m) a v
latest-store a v m = latest-store_from a v 0 m a (omega arith)

-- A power cut.
pub can-length : (m : Medium) (xs : List ℕ) → CanCutTo m xs → length xs ≡ length m
can-length [] [] t = refl
can-length [] (x ∷ xs) t = absurd t
can-length (c ∷ cs) [] t = absurd t
can-length (c ∷ cs) (x ∷ xs) t = ap suc (can-length cs xs t.1)

pub can-at : (m : Medium) (xs : List ℕ) → CanCutTo m xs → (k : ℕ) → k < length m → Mem (get_or xs k 0) (values (cell_at m k))
can-at [] xs t k h = absurd (not-suc-le-zero h)
can-at (c ∷ cs) [] t k h = absurd t
can-at (c ∷ cs) (x ∷ xs) t zero h = t.0
can-at (c ∷ cs) (x ∷ xs) t (suc k) h = can-at cs xs t.1 k (le_of_suc-le-suc h)

-- a settled word is the same in any cut
pub can-fresh : (m : Medium) (xs : List ℕ) → CanCutTo m xs → (k v : ℕ) → k < length m → cell_at m k ≡ fresh v → get_or xs k 0 ≡ v
can-fresh m xs t k v h e = only (rw e at (can-at m xs t k h))
  where
    only : {x : ℕ} → Mem x (values (fresh v)) → x ≡ v
    only (inl p) = p
    only (inr n) = absurd n

get_or-mem : (ys : List ℕ) (p d : ℕ) → Mem (get_or ys p d) (d ∷ ys)
get_or-mem [] p d = inl refl
get_or-mem (y ∷ ys) zero d = inr (inl refl)
get_or-mem (y ∷ ys) (suc p) d = elim (get_or-mem ys p d) [ inl e ↦ inl e | inr n ↦ inr (inr n) ]

chosen-mem : (ys : List ℕ) (p d : ℕ) → Mem (get_or (d ∷ ys) p d) (d ∷ ys)
chosen-mem ys zero d = inl refl
chosen-mem ys (suc p) d = get_or-mem ys p d

pub can-cut_from : (chooses : ℕ → ℕ) (i : ℕ) (m : Medium) → CanCutTo m (cut_from chooses i m)
can-cut_from chooses i [] = tt
can-cut_from chooses i (c ∷ cs) = (chosen-mem (c.newer ++ c.older) (chooses i) c.now, can-cut_from chooses (suc i) cs)

pub can-cut : (chooses : ℕ → ℕ) (m : Medium) → CanCutTo m (cut chooses m)
can-cut chooses m = can-cut_from chooses 0 m

-- and every outcome is the cut of some chooses: `cut` loses none
place : (x d : ℕ) (ys : List ℕ) → Mem x ys → (p : ℕ) × (get_or ys p d ≡ x)
place x d [] t = absurd t
place x d (y ∷ ys) (inl e) = (0, sym e)
place x d (y ∷ ys) (inr t) = let q : (p : ℕ) × (get_or ys p d ≡ x) = place x d ys t in (suc q.0, q.1)

abbrev cons : ℕ → (ℕ → ℕ) → ℕ → ℕ
cons p f zero = p
cons p f (suc k) = f k

cut-ext : (f g : ℕ → ℕ) (i j : ℕ) (m : Medium) → ((k : ℕ) → f (i + k) ≡ g (j + k)) → cut_from f i m ≡ cut_from g j m
cut-ext f g i j [] h = refl
cut-ext f g i j (c ∷ cs) h =
    ap₂ (λ (p : ℕ) (l : List ℕ). get_or (values c) p c.now ∷ l) (rw (add-zero, add-zero) at (h 0))
    (cut-ext f g (suc i) (suc j) cs (λ k. rw (suc-add, suc-add, ← add-suc, ← add-suc) (h (suc k))))

pub can-is-cut : (m : Medium) (xs : List ℕ) → CanCutTo m xs → (chooses : ℕ → ℕ) × (cut chooses m ≡ xs)
can-is-cut [] [] t = (λ k. k, refl)
can-is-cut [] (x ∷ xs) t = absurd t
can-is-cut (c ∷ cs) [] t = absurd t
can-is-cut (c ∷ cs) (x ∷ xs) t =
    let p : (p : ℕ) × (get_or (values c) p c.now ≡ x) = place x c.now (values c) t.0 in
    let q : (chooses : ℕ → ℕ) × (cut chooses cs ≡ xs) = can-is-cut cs xs t.1 in
    (cons p.0 q.0, ap₂ (λ (y : ℕ) (l : List ℕ). y ∷ l) p.1 (cut-ext (cons p.0 q.0) q.0 1 0 cs (λ k. rw (suc-add, zero-add) refl) ∙ q.1))

pub length-settled : (xs : List ℕ) → length (settled_at xs) ≡ length xs
length-settled [] = refl
length-settled (x ∷ xs) = ap suc (length-settled xs)

pub cell-settled : (xs : List ℕ) (k : ℕ) → cell_at (settled_at xs) k ≡ fresh (get_or xs k 0)
cell-settled [] k = refl
cell-settled (x ∷ xs) zero = refl
cell-settled (x ∷ xs) (suc k) = cell-settled xs k

pub latest-settled : (xs : List ℕ) → latest (settled_at xs) ≡ xs
latest-settled [] = refl
latest-settled (x ∷ xs) = ap (λ (l : List ℕ). x ∷ l) (latest-settled xs)
