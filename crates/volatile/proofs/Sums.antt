-- The laws of sums over keys, each key once: the list of keys does not matter, as long as it has every key that adds
-- something; and what one key more or another chosen entry does to a chunk's sum.
-- Assumes nothing.
use Rattle.std.proofs.Common.{◌≡◌, ℕ, ◌+◌, ◌≤◌, Bool, true, false, eqb, List, [], ◌∷◌, get_or, sym, refl, ap, subst, ◌∙◌, inl, inr, arith, eq-eqb, ne_eqb}
use mathlib.Core.Logic.{by_cases}
use mathlib.Core.Option.{Option, none, some}
use native.Mathlib.Decide.{ℕ_discrete}
use Rattle.spec.specs.declared.Size.{Size}
use Rattle.spec.specs.Basics.{pick, is_some, is_in}
use Rattle.spec.specs.Medium.{Mem as Among}
use Rattle.spec.specs.Log.{Entry}
use Rattle.spec.specs.Contents.{chosen, known, keys_of}
use Rattle.theory_base.proofs.Lists.{not-both, is_in-mem, mem-is_in, Once, distinct-once}
use Rattle.theory_log.proofs.Keys.{key_list, keys-known}
use Rattle.buffer.specs.Areas.{sums_start}
use Rattle.volatile.specs.Sums.{share_in, sum_over, chosen_sum, Summed}

-- ## Sums over a list

pub sum_same : (f g : ℕ → ℕ) (ks : List ℕ) → ((k : ℕ) → Among k ks → f k ≡ g k) → sum_over f ks ≡ sum_over g ks
sum_same f g [] h = refl
sum_same f g (k ∷ ks) h = let a = h k (inl refl) in let b = sum_same f g ks (λ j m. h j (inr m)) in omega arith

pub sum-zero : (f : ℕ → ℕ) (ks : List ℕ) → ((k : ℕ) → f k ≡ 0) → sum_over f ks ≡ 0
sum-zero f [] h = refl
sum-zero f (k ∷ ks) h = let a = h k in let b = sum-zero f ks h in omega arith

pub sum-plus : (f g h : ℕ → ℕ) (ks : List ℕ) → ((k : ℕ) → h k ≡ f k + g k) → sum_over h ks ≡ sum_over f ks + sum_over g ks
sum-plus f g h [] e = refl
sum-plus f g h (k ∷ ks) e = let a = e k in let b = sum-plus f g h ks e in omega arith

-- one key alone differs
pub sum-but : (f g : ℕ → ℕ) (k : ℕ) (ks : List ℕ) → Once ks → Among k ks → ((j : ℕ) → (j ≡ k → ⊥) → f j ≡ g j) → sum_over f ks + g k ≡ sum_over g ks + f k
sum-but f g k [] o m h = absurd m
sum-but f g k (x ∷ ks) o (inl q) h =
    let same = sum_same f g ks (λ j m. h j (λ e. o.0 (rw (e ∙ q) at m))) in
    rw q (omega arith)
sum-but f g k (x ∷ ks) o (inr m) h =
    let a = h x (λ e. o.0 (subst (λ y. Among y ks) (sym e) m)) in
    let b = sum-but f g k ks o.1 m h in
    omega arith

-- a function without one key
abbrev without : ℕ → (ℕ → ℕ) → ℕ → ℕ
without k f j = pick (eqb j k) 0 (f j)

without-own : (k : ℕ) (f : ℕ → ℕ) → without k f k ≡ 0
without-own k f = rw (eq-eqb k k refl)

without_other : (k : ℕ) (f : ℕ → ℕ) (j : ℕ) → (j ≡ k → ⊥) → without k f j ≡ f j
without_other k f j n = rw (ne_eqb j k n)

-- every key that adds something is in the list
abbrev pub Covers : List ℕ → (ℕ → ℕ) → Type 0
Covers ks f = (k : ℕ) → (Among k ks → ⊥) → f k ≡ 0

-- THE LIST DOES NOT MATTER
pub sum-lists : (f : ℕ → ℕ) (ks js : List ℕ) → Once ks → Once js → Covers ks f → Covers js f → sum_over f ks ≡ sum_over f js
sum-lists f [] js a b c d = sym (sum-zero f js (λ k. c k (λ m. m)))
sum-lists f (k ∷ ks) js a b c d =
    let g = without k f in
    let here : sum_over g ks ≡ sum_over f ks = sum_same g f ks (λ j m. without_other k f j (λ e. a.0 (rw e at m))) in
    let rest : sum_over g ks ≡ sum_over g js = sum-lists g ks js a.1 b cover-ks cover-js in
    let there : sum_over f js ≡ f k + sum_over g js = split (is_in k js) refl in
    omega arith
  where
    cover-ks : Covers ks (without k f)
    cover-ks j n = by_cases (ℕ_discrete j k) (λ e. rw e (without-own k f)) (λ e. without_other k f j e ∙ c j (λ m. elim m [ inl q ↦ e q | inr l ↦ n l ]))

    cover-js : Covers js (without k f)
    cover-js j n = by_cases (ℕ_discrete j k) (λ e. rw e (without-own k f)) (λ e. without_other k f j e ∙ d j n)

    split : (t : Bool) → is_in k js ≡ t → sum_over f js ≡ f k + sum_over (without k f) js
    split true h =
        let s = sum-but f (without k f) k js b (is_in-mem k js h) (λ j n. sym (without_other k f j n)) in
        let z = without-own k f in
        omega arith
    split false h =
        let none_here : (m : Among k js) → ⊥ = λ m. not-both (is_in k js) (mem-is_in k js m) h in
        let z = d k none_here in
        let s = sum_same f (without k f) js (λ j m. sym (without_other k f j (λ e. none_here (rw e at m)))) in
        omega arith

-- ## The sum of a chunk

share-none : (size : Size) → (c : ℕ) (o : Option Entry) → is_some o ≡ false → share_in size c o ≡ 0
share-none size c none h = refl
share-none size c (some e) h = absurd (not-both true refl h)

pub keys-once : (es : List Entry) → Once (keys_of es)
keys-once es = distinct-once (key_list es)

unknown-key : (es : List Entry) (k : ℕ) → (Among k (keys_of es) → ⊥) → known k es ≡ false
unknown-key es k n = go (known k es) refl
  where
    go : (b : Bool) → known k es ≡ b → b ≡ false
    go false h = refl
    go true h = absurd (n (is_in-mem k (keys_of es) (keys-known k es ∙ h)))

pub keys-cover : (size : Size) → (c : ℕ) (es : List Entry) → Covers (keys_of es) (λ k. share_in size c (chosen k es))
keys-cover size c es k n = share-none size c (chosen k es) (unknown-key es k n)

-- over any list of keys that has every known one
pub sum_by : (size : Size) → (c : ℕ) (es : List Entry) (ks : List ℕ) → Once ks → Covers ks (λ k. share_in size c (chosen k es)) → chosen_sum size c es ≡ sum_over (λ k. share_in size c (chosen k es)) ks
unfolding chosen_sum
sum_by size c es ks o h = sum-lists (λ k. share_in size c (chosen k es)) (keys_of es) ks (keys-once es) o (keys-cover size c es) h

-- a buffer with the same sums
pub summed_same : (size : Size) → (b d : List ℕ) (es : List Entry) → ((i : ℕ) → sums_start ≤ i → get_or d i 0 ≡ get_or b i 0) → Summed size b es → Summed size d es
summed_same size b d es h s = record { each = λ c l. h (sums_start + c) (omega arith) ∙ s.each c l }

pub sum-none : (size : Size) → (c : ℕ) → chosen_sum size c [] ≡ 0
unfolding chosen_sum
sum-none size c = refl

-- ONE KEY'S CHOSEN ENTRY changes, and no other's
pub sum-turned : (size : Size) → (c k : ℕ) (es es' : List Entry) → known k es' ≡ true → ((j : ℕ) → (j ≡ k → ⊥) → chosen j es' ≡ chosen j es)
    → chosen_sum size c es' + share_in size c (chosen k es) ≡ chosen_sum size c es + share_in size c (chosen k es')
unfolding chosen_sum
sum-turned size c k es es' h same =
    let f : (ℕ → ℕ) = λ j. share_in size c (chosen j es) in
    let g : (ℕ → ℕ) = λ j. share_in size c (chosen j es') in
    let here : Among k (keys_of es') = is_in-mem k (keys_of es') (keys-known k es' ∙ h) in
    let cover : Covers (keys_of es') (λ j. share_in size c (chosen j es)) = λ j n. sym (ap (share_in size c) (same j (λ e. n (rw (sym e) at here)))) ∙ keys-cover size c es' j n in
    let all = sum_by size c es (keys_of es') (keys-once es') cover in
    let two = sum-but g f k (keys_of es') (keys-once es') here (λ j n. ap (share_in size c) (same j n)) in
    rw all two
