-- The laws of contents: the chosen entry is a fold; a batch does its items in order; when two lists mean the same.
-- Assumes nothing.
use Rattle.std.proofs.lemmas.Bool.Decides.{nat_tests}
use mathlib.Core.Path.{◌≡◌, refl, sym, ◌∙◌, ap}
use mathlib.Core.Logic.{◌⊎◌, inl, inr}
use mathlib.Core.Bool.{Bool, true, false}
use mathlib.Core.Option.{Option, none, some}
use mathlib.Core.List.{List, [], ◌∷◌, ◌++◌}
use Prim.Native.Nat.{ℕ, suc, ◌+◌, ◌≤◌, ◌<◌}
use native.Mathlib.Omega.{arith}
use lib.Dec.{eqb, leb, leb-zero}
use lib.ListN.{length}
use lib.Seq.{append_snoc}
use borrow.Author.Tests.{eqb-true, eqb-false, leb-true, leb-false, eq-eqb, ne_eqb, le-leb, lt-leb}
use Rattle.spec.specs.Basics.{pick, larger, both, filter, first}
use Rattle.spec.specs.Log.{Entry, moved, placed}
use Rattle.spec.specs.Contents.{highest, Held, Absent, is_top_of, tops, chosen, held, contents_by}
use Rattle.theory_log.specs.Contents.{done, CountsOn, Mem, Same, Agree}

-- The chosen entry as a fold: the first of the highest.
abbrev pub better : Option Entry → Option Entry → Option Entry
better none q = q
better (some e) none = some e
better (some e) (some f) = pick (leb f.version e.version) (some e) (some f)

abbrev pub one : ℕ → Entry → Option Entry
one k e = pick (eqb e.key k) (some e) none

abbrev pub best : ℕ → List Entry → Option Entry
best k [] = none
best k (e ∷ es) = better (one k e) (best k es)

abbrev pub version_of : Option Entry → ℕ
version_of none = 0
version_of (some e) = e.version

abbrev at_version : ℕ → Option Entry → Option Entry
at_version h none = none
at_version h (some e) = pick (eqb e.version h) (some e) none

-- larger, as arithmetic
pub larger-zero : (b : ℕ) → larger b 0 ≡ b
larger-zero b = grind (arith, nat_tests)

pub larger-assoc : (a b c : ℕ) → larger a (larger b c) ≡ larger (larger a b) c
larger-assoc a b c = grind (arith, nat_tests)

pub larger-l : (a b : ℕ) → a ≤ larger a b
larger-l a b = grind (arith, nat_tests)

pub larger-r : (a b : ℕ) → b ≤ larger a b
larger-r a b = grind (arith, nat_tests)

pub larger-is : (a b c : ℕ) → a ≤ c → b ≤ c → larger a b ≤ c
larger-is a b c p q = grind (arith, nat_tests)

pub version-better : (p q : Option Entry) → version_of (better p q) ≡ larger (version_of p) (version_of q)
version-better none q = rw (leb-zero (version_of q))
version-better (some e) none = sym (larger-zero e.version)
version-better (some e) (some f) = go (leb f.version e.version) refl (leb e.version f.version) refl
  where
    go : (s : Bool) → leb f.version e.version ≡ s → (t : Bool) → leb e.version f.version ≡ t
        → version_of (pick s (some e) (some f)) ≡ pick t f.version e.version
    go true a true b = let x = leb-true f.version e.version a in let y = leb-true e.version f.version b in omega arith
    go true a false b = refl
    go false a true b = refl
    go false a false b = let x = leb-false f.version e.version a in let y = leb-false e.version f.version b in absurd (omega arith)

pub highest-best : (k : ℕ) (es : List Entry) → version_of (best k es) ≡ highest k es
highest-best k [] = refl
highest-best k (e ∷ es) = go (eqb e.key k) (highest-best k es)
  where
    go : (t : Bool) → version_of (best k es) ≡ highest k es → version_of (better (pick t (some e) none) (best k es)) ≡ pick t (larger e.version (highest k es)) (highest k es)
    go true r = version-better (some e) (best k es) ∙ rw r
    go false r = r

-- the first entry of key k and version h, where no version is above h
first_two : (h : ℕ) (e : Entry) (fs : List Entry) (q : Option Entry) → e.version ≤ h → version_of q ≤ h → first fs ≡ at_version h q
    → first (pick (eqb e.version h) (e ∷ fs) fs) ≡ at_version h (better (some e) q)
first_two h e fs none u m r = go (eqb e.version h)
  where
    go : (t : Bool) → first (pick t (e ∷ fs) fs) ≡ pick t (some e) none
    go true = refl
    go false = r
first_two h e fs (some f) u m r = go (leb f.version e.version) refl (eqb e.version h) refl
  where
    go : (s : Bool) → leb f.version e.version ≡ s → (t : Bool) → eqb e.version h ≡ t → first (pick t (e ∷ fs) fs) ≡ at_version h (pick s (some e) (some f))
    go true a true b = rw b
    go true a false b =
        let x = leb-true f.version e.version a in
        let y = eqb-false e.version h b in
        r ∙ rw (b, ne_eqb f.version h (omega arith))
    go false a true b = let x = leb-false f.version e.version a in let y = eqb-true e.version h b in absurd (omega arith)
    go false a false b = r

first-at : (k h : ℕ) (es : List Entry) → highest k es ≤ h → first (filter (is_top_of k h) es) ≡ at_version h (best k es)
first-at k h [] l = refl
first-at k h (e ∷ es) l = go (eqb e.key k) l (first-at k h es)
  where
    go : (t : Bool) → pick t (larger e.version (highest k es)) (highest k es) ≤ h → (highest k es ≤ h → first (filter (is_top_of k h) es) ≡ at_version h (best k es))
        → first (pick (both t (eqb e.version h)) (e ∷ filter (is_top_of k h) es) (filter (is_top_of k h) es)) ≡ at_version h (better (pick t (some e) none) (best k es))
    go false m rec = rec m
    go true m rec =
        let x = larger-l e.version (highest k es) in
        let y = larger-r e.version (highest k es) in
        first_two h e (filter (is_top_of k h) es) (best k es) (omega arith) (rw (highest-best k es) (omega arith)) (rec (omega arith))

at_own : (q : Option Entry) → at_version (version_of q) q ≡ q
at_own none = refl
at_own (some e) = rw (eq-eqb e.version e.version refl)

pub chosen-best : (k : ℕ) (es : List Entry) → chosen k es ≡ best k es
unfolding chosen tops
chosen-best k es = first-at k (highest k es) es (omega arith) ∙ rw (← highest-best k es) (at_own (best k es))

-- The fold over appended lists.
pub better-none : (p : Option Entry) → better p none ≡ p
better-none none = refl
better-none (some e) = refl

pub better-assoc : (p q r : Option Entry) → better (better p q) r ≡ better p (better q r)
better-assoc none q r = refl
better-assoc (some e) none r = refl
better-assoc (some e) (some f) none = better-none (better (some e) (some f))
better-assoc (some e) (some f) (some g) = go (leb f.version e.version) refl (leb g.version f.version) refl
  where
    go : (s : Bool) → leb f.version e.version ≡ s → (t : Bool) → leb g.version f.version ≡ t
        → better (pick s (some e) (some f)) (some g) ≡ better (some e) (pick t (some f) (some g))
    go true a true b = let x = leb-true f.version e.version a in let y = leb-true g.version f.version b in rw (a, le-leb g.version e.version (omega arith))
    go true a false b = refl
    go false a true b = rw (a, b)
    go false a false b = let x = leb-false f.version e.version a in let y = leb-false g.version f.version b in rw (b, lt-leb g.version e.version (omega arith))

pub best-append : (k : ℕ) (xs ys : List Entry) → best k (xs ++ ys) ≡ better (best k xs) (best k ys)
best-append k [] ys = refl
best-append k (x ∷ xs) ys = ap (better (one k x)) (best-append k xs ys) ∙ sym (better-assoc (one k x) (best k xs) (best k ys))

pub highest-append : (k : ℕ) (xs ys : List Entry) → highest k (xs ++ ys) ≡ larger (highest k xs) (highest k ys)
highest-append k xs ys = rw (← highest-best k (xs ++ ys), best-append k xs ys, version-better (best k xs) (best k ys), highest-best k xs, highest-best k ys)

-- an entry above all others is the best, wherever it stands
pub best-above : (p q : Option Entry) (e : Entry) → version_of p < e.version → version_of q < e.version → better p (better (some e) q) ≡ some e
best-above none none e h l = refl
best-above none (some f) e h l = rw (le-leb f.version e.version (omega arith))
best-above (some g) none e h l = rw (lt-leb e.version g.version (omega arith))
best-above (some g) (some f) e h l = rw (le-leb f.version e.version (omega arith), lt-leb e.version g.version (omega arith))

-- one more entry, which counts on, anywhere in the list
pub contents-one : (mean : Entry → Held) (xs ys : List Entry) (e : Entry) → e.version ≡ suc (highest e.key (xs ++ ys)) → (k : ℕ)
    → contents_by mean (xs ++ e ∷ ys) k ≡ pick (eqb e.key k) (mean e) (contents_by mean (xs ++ ys) k)
contents-one mean xs ys e v k = rw (chosen-best k (xs ++ e ∷ ys), chosen-best k (xs ++ ys), best-append k xs (e ∷ ys), best-append k xs ys) (go (eqb e.key k) (eqb-true e.key k))
  where
    go : (t : Bool) → (t ≡ true → e.key ≡ k) → held mean (better (best k xs) (better (pick t (some e) none) (best k ys))) ≡ pick t (mean e) (held mean (better (best k xs) (best k ys)))
    go true h =
        let q : e.version ≡ suc (highest k (xs ++ ys)) = rw (h refl) at v in
        let a = rw (highest-append k xs ys) at q in
        let x = larger-l (highest k xs) (highest k ys) in
        let y = larger-r (highest k xs) (highest k ys) in
        rw (best-above (best k xs) (best k ys) e (rw (highest-best k xs) (omega arith)) (rw (highest-best k ys) (omega arith)))
    go false h = refl

pub done-same : (mean : Entry → Held) (batch : List Entry) (c d : ℕ → Held) → ((k : ℕ) → c k ≡ d k) → (k : ℕ) → done mean batch c k ≡ done mean batch d k
done-same mean [] c d h k = h k
done-same mean (e ∷ es) c d h k = done-same mean es _ _ (λ j. rw (h j)) k

pub counts_same : (es fs batch : List Entry) → ((k : ℕ) → highest k es ≡ highest k fs) → CountsOn es batch → CountsOn fs batch
counts_same es fs [] h c = tt
counts_same es fs (e ∷ batch) h c = (c.0 ∙ ap suc (h e.key), counts_same (e ∷ es) (e ∷ fs) batch (λ k. rw (h k)) c.1)

pub larger-comm : (a b : ℕ) → larger a b ≡ larger b a
larger-comm a b = grind (arith, nat_tests)

pub highest-insert : (k : ℕ) (xs ys : List Entry) (e : Entry) → highest k (e ∷ (xs ++ ys)) ≡ highest k (xs ++ e ∷ ys)
highest-insert k xs ys e = rw (highest-append k xs ys, highest-append k xs (e ∷ ys)) (go (eqb e.key k))
  where
    go : (t : Bool) → pick t (larger e.version (larger (highest k xs) (highest k ys))) (larger (highest k xs) (highest k ys))
        ≡ larger (highest k xs) (pick t (larger e.version (highest k ys)) (highest k ys))
    go false = refl
    go true = larger-assoc e.version (highest k xs) (highest k ys) ∙ rw (larger-comm e.version (highest k xs)) (sym (larger-assoc (highest k xs) e.version (highest k ys)))

-- A batch whose versions count on, anywhere in the list, does its items in order.
pub contents-batch : (mean : Entry → Held) (batch xs ys : List Entry) → CountsOn (xs ++ ys) batch → (k : ℕ)
    → contents_by mean (xs ++ (batch ++ ys)) k ≡ done mean batch (contents_by mean (xs ++ ys)) k
contents-batch mean [] xs ys c k = refl
contents-batch mean (e ∷ batch) xs ys c k =
    let more : CountsOn ((xs ++ e ∷ []) ++ ys) batch = counts_same (e ∷ (xs ++ ys)) ((xs ++ e ∷ []) ++ ys) batch (λ j. rw append_snoc (highest-insert j xs ys e)) c.1 in
    let rec = contents-batch mean batch (xs ++ e ∷ []) ys more k in
    (rw append_snoc at rec) ∙ done-same mean batch _ _ (λ j. rw append_snoc (contents-one mean xs ys e c.0 j)) k

-- Membership.
pub mem-l : (e : Entry) (xs ys : List Entry) → Mem e xs → Mem e (xs ++ ys)
mem-l e [] ys m = absurd m
mem-l e (x ∷ xs) ys (inl q) = inl q
mem-l e (x ∷ xs) ys (inr m) = inr (mem-l e xs ys m)

pub mem-r : (e : Entry) (xs ys : List Entry) → Mem e ys → Mem e (xs ++ ys)
mem-r e [] ys m = m
mem-r e (x ∷ xs) ys m = inr (mem-r e xs ys m)

pub mem-cases : (e : Entry) (xs ys : List Entry) → Mem e (xs ++ ys) → Mem e xs ⊎ Mem e ys
mem-cases e [] ys m = inr m
mem-cases e (x ∷ xs) ys (inl q) = inl (inl q)
mem-cases e (x ∷ xs) ys (inr m) = go (mem-cases e xs ys m)
  where
    go : Mem e xs ⊎ Mem e ys → Mem e (x ∷ xs) ⊎ Mem e ys
    go (inl a) = inl (inr a)
    go (inr b) = inr b

pub mem-filter : (p : Entry → Bool) (e : Entry) (es : List Entry) → Mem e (filter p es) → Mem e es × (p e ≡ true)
mem-filter p e [] m = absurd m
mem-filter p e (x ∷ xs) m = go (p x) refl m (mem-filter p e xs)
  where
    go : (t : Bool) → p x ≡ t → Mem e (pick t (x ∷ filter p xs) (filter p xs)) → (Mem e (filter p xs) → Mem e xs × (p e ≡ true)) → Mem e (x ∷ xs) × (p e ≡ true)
    go true a (inl q) rec = (inl q, ap p q ∙ a)
    go true a (inr n) rec = (inr (rec n).0, (rec n).1)
    go false a n rec = (inr (rec n).0, (rec n).1)

pub filter-mem : (p : Entry → Bool) (e : Entry) (es : List Entry) → Mem e es → p e ≡ true → Mem e (filter p es)
filter-mem p e [] m h = absurd m
filter-mem p e (x ∷ xs) (inl q) h = rw (sym (ap p q) ∙ h) (inl q)
filter-mem p e (x ∷ xs) (inr m) h = go (p x) (filter-mem p e xs m h)
  where
    go : (t : Bool) → Mem e (filter p xs) → Mem e (pick t (x ∷ filter p xs) (filter p xs))
    go true n = inr n
    go false n = n

-- What is chosen: of the list, of the key, and nothing of the key is above it.
pub record Chosen (k : ℕ) (es : List Entry) (e : Entry) : Type 0 where
  pub in_list : Mem e es
  pub of-key : e.key ≡ k
  pub above : (f : Entry) → Mem f es → f.key ≡ k → f.version ≤ e.version

-- entries have their versions wherever they are put, and stand among others as behind them
pub highest-placed : (k at : ℕ) (es : List Entry) → highest k (placed at es) ≡ highest k es
highest-placed k at [] = refl
highest-placed k at (e ∷ es) = ap (λ (h : ℕ). pick (eqb e.key k) (larger e.version h) h) (highest-placed k (at + (2 + length e.value)) es)

pub highest-among : (k : ℕ) (xs batch ys : List Entry) → highest k (xs ++ (batch ++ ys)) ≡ highest k ((xs ++ ys) ++ batch)
highest-among k xs batch ys =
    highest-append k xs (batch ++ ys)
    ∙ ap (larger (highest k xs)) (highest-append k batch ys ∙ larger-comm (highest k batch) (highest k ys))
    ∙ larger-assoc (highest k xs) (highest k ys) (highest k batch)
    ∙ ap (λ (h : ℕ). larger h (highest k batch)) (sym (highest-append k xs ys))
    ∙ sym (highest-append k (xs ++ ys) batch)

-- no entry of the key is above it
pub highest-most : (k most : ℕ) (es : List Entry) → ((e : Entry) → Mem e es → e.key ≡ k → e.version ≤ most) → highest k es ≤ most
highest-most k most [] below = omega arith
highest-most k most (e ∷ es) below = go (eqb e.key k) (eqb-true e.key k) (highest-most k most es (λ f t. below f (inr t)))
  where
    go : (b : Bool) → (b ≡ true → e.key ≡ k) → highest k es ≤ most → pick b (larger e.version (highest k es)) (highest k es) ≤ most
    go true h rest = larger-is e.version (highest k es) most (below e (inl refl) (h refl)) rest
    go false h rest = rest

-- where no entry is of the key it is 0
pub highest-none : (k : ℕ) (es : List Entry) → ((e : Entry) → Mem e es → e.key ≡ k → ⊥) → highest k es ≡ 0
highest-none k [] none_of = refl
highest-none k (e ∷ es) none_of = ap (λ (b : Bool). pick b (larger e.version (highest k es)) (highest k es)) (ne_eqb e.key k (none_of e (inl refl))) ∙ highest-none k es (λ f t. none_of f (inr t))

pub below-highest : (k : ℕ) (es : List Entry) (f : Entry) → Mem f es → f.key ≡ k → f.version ≤ highest k es
below-highest k [] f m q = absurd m
below-highest k (x ∷ xs) f (inl e) q =
    let kk : x.key ≡ k = sym (ap (λ (y : Entry). y.key) e) ∙ q in
    let l = larger-l x.version (highest k xs) in
    let v : f.version ≡ x.version = ap (λ (y : Entry). y.version) e in
    rw (eq-eqb x.key k kk) (omega arith)
below-highest k (x ∷ xs) f (inr m) q = go (eqb x.key k) (below-highest k xs f m q)
  where
    go : (t : Bool) → f.version ≤ highest k xs → f.version ≤ pick t (larger x.version (highest k xs)) (highest k xs)
    go true h = let l = larger-r x.version (highest k xs) in omega arith
    go false h = h

best-in : (k : ℕ) (es : List Entry) (e : Entry) → best k es ≡ some e → Mem e es × (e.key ≡ k)
best-in k [] e q = absurd (let z : ◌≡◌ {A = ℕ} 0 1 = cc in omega arith)
best-in k (x ∷ xs) e q = go (eqb x.key k) (eqb-true x.key k) (best k xs) (best-in k xs e) q
  where
    go : (t : Bool) → (t ≡ true → x.key ≡ k) → (r : Option Entry) → (r ≡ some e → Mem e xs × (e.key ≡ k)) → better (pick t (some x) none) r ≡ some e → Mem e (x ∷ xs) × (e.key ≡ k)
    go false h r rec p = (inr (rec p).0, (rec p).1)
    go true h none rec p = let s : e ≡ x = cc in (inl s, ap (λ (y : Entry). y.key) s ∙ h refl)
    go true h (some f) rec p = two (leb f.version x.version) p
      where
        two : (s : Bool) → pick s (some x) (some f) ≡ some e → Mem e (x ∷ xs) × (e.key ≡ k)
        two true p' = let s : e ≡ x = cc in (inl s, ap (λ (y : Entry). y.key) s ∙ h refl)
        two false p' = (inr (rec p').0, (rec p').1)

pub chosen_is : (k : ℕ) (es : List Entry) (e : Entry) → chosen k es ≡ some e → Chosen k es e
chosen_is k es e q =
    let b : best k es ≡ some e = sym (chosen-best k es) ∙ q in
    let h : e.version ≡ highest k es = sym (ap version_of b) ∙ highest-best k es in
    record {
      in_list = (best-in k es e b).0;
      of-key = (best-in k es e b).1;
      above = λ f m s. let l = below-highest k es f m s in omega arith;
    }

pub best_none : (k : ℕ) (es : List Entry) (f : Entry) → best k es ≡ none → Mem f es → f.key ≡ k → ⊥
best_none k [] f q m s = m
best_none k (x ∷ xs) f q m s = go (eqb x.key k) (eqb-false x.key k) (best k xs) q m (λ r n. best_none k xs f r n s)
  where
    go : (t : Bool) → (t ≡ false → x.key ≡ k → ⊥) → (r : Option Entry) → better (pick t (some x) none) r ≡ none → Mem f (x ∷ xs) → (r ≡ none → Mem f xs → ⊥) → ⊥
    go true h none p n rec = let z : ◌≡◌ {A = ℕ} 0 1 = cc in omega arith
    go true h (some g) p n rec = two (leb g.version x.version) p
      where
        two : (t : Bool) → pick t (some x) (some g) ≡ none → ⊥
        two true p' = let z : ◌≡◌ {A = ℕ} 0 1 = cc in omega arith
        two false p' = let z : ◌≡◌ {A = ℕ} 0 1 = cc in omega arith
    go false h r p (inl e) rec = h refl (sym (ap (λ (y : Entry). y.key) e) ∙ s)
    go false h r p (inr n) rec = rec p n

pub none_of : (k : ℕ) (es : List Entry) (f : Entry) → chosen k es ≡ none → Mem f es → f.key ≡ k → ⊥
none_of k es f q = best_none k es f (sym (chosen-best k es) ∙ q)

-- no entry of the key: none chosen
pub chosen_none : (k : ℕ) (es : List Entry) → ((f : Entry) → Mem f es → f.key ≡ k → ⊥) → chosen k es ≡ none
chosen_none k es h = go (chosen k es) (chosen_is k es)
  where
    go : (q : Option Entry) → ((e : Entry) → q ≡ some e → Chosen k es e) → q ≡ none
    go none c = refl
    go (some e) c = let d = c e refl in absurd (h e d.in_list d.of-key)

-- Entries that are the same have one key and one version, and mean the same where the meaning does not depend on the
-- place.
pub same_key : (e f : Entry) → Same e f → e.key ≡ f.key
same_key e f s = ap (λ (x : Entry). x.key) s

pub same_version : (e f : Entry) → Same e f → e.version ≡ f.version
same_version e f s = ap (λ (x : Entry). x.version) s

pub same-means : (mean : Entry → Held) → ((a : ℕ) (e : Entry) → mean (moved a e) ≡ mean e) → (e f : Entry) → Same e f → mean e ≡ mean f
same-means mean free e f s = sym (free 0 e) ∙ ap mean s ∙ free 0 f

-- The frame of cleaning: a list whose entries are all the same as some entry of the old one, and which has for each key
-- what the old one chose, or nothing where that is absent.
pub contents-same : (mean : Entry → Held) → ((a : ℕ) (e : Entry) → mean (moved a e) ≡ mean e) → (old new : List Entry) → Agree old
    → ((f : Entry) → Mem f new → (e : Entry) × Mem e old × Same f e)
    → ((k : ℕ) (e : Entry) → chosen k old ≡ some e → ((f : Entry) × Mem f new × Same f e) ⊎ ((mean e ≡ Absent) × ((f : Entry) → Mem f new → f.key ≡ k → ⊥)))
    → (k : ℕ) → contents_by mean new k ≡ contents_by mean old k
contents-same mean free old new agree from to k = go (chosen k old) refl
  where
    more : (e : Entry) → chosen k old ≡ some e → (f : Entry) → Mem f new → Same f e → (q : Option Entry) → chosen k new ≡ q → held mean q ≡ mean e
    more e h f m s none n = absurd (none_of k new f n m (same_key f e s ∙ (chosen_is k old e h).of-key))
    more e h f m s (some g) n =
        let c = chosen_is k new g n in
        let d = chosen_is k old e h in
        let o = from g c.in_list in
        let ok : o.0.key ≡ k = sym (same_key g o.0 o.2) ∙ c.of-key in
        let up : f.version ≤ g.version = c.above f m (same_key f e s ∙ d.of-key) in
        let down : o.0.version ≤ e.version = d.above o.0 o.1 ok in
        let sv = same_version f e s in
        let ov = same_version g o.0 o.2 in
        same-means mean free g e (o.2 ∙ agree k e o.0 h o.1 ok (omega arith))

    go : (q : Option Entry) → chosen k old ≡ q → contents_by mean new k ≡ held mean q
    go none h = rw (chosen_none k new (λ f m s. let o = from f m in none_of k old o.0 h o.1 (sym (same_key f o.0 o.2) ∙ s)))
    go (some e) h = either_way (to k e h)
      where
        either_way : ((f : Entry) × Mem f new × Same f e) ⊎ ((mean e ≡ Absent) × ((f : Entry) → Mem f new → f.key ≡ k → ⊥)) → contents_by mean new k ≡ mean e
        either_way (inl r) = more e h r.0 r.1 r.2 (chosen k new) refl
        either_way (inr r) = rw (chosen_none k new r.1) (sym r.0)
