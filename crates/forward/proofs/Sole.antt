-- Keys with one top entry: where it stands does not matter. Entries of one key are counted.
-- Assumes nothing.
use mathlib.Core.Path.{◌≡◌, refl, sym, ◌∙◌, ap}
use mathlib.Core.Logic.{inl, inr}
use mathlib.Core.Bool.{Bool, true, false}
use mathlib.Core.Option.{Option, none, some}
use mathlib.Core.List.{List, [], ◌∷◌, ◌++◌}
use Prim.Native.Nat.{ℕ, suc, ◌+◌, ◌≤◌}
use native.Mathlib.Omega.{arith}
use lib.Dec.{eqb, leb}
use lib.ListN.{length, length-append}
use borrow.Author.Tests.{eqb-true, eqb-false, eq-eqb, ne_eqb, le-leb}
use Rattle.spec.specs.declared.Size.{Size}
use Rattle.spec.specs.Basics.{pick, filter}
use Rattle.spec.specs.Log.{Entry, moved, placed}
use Rattle.spec.specs.Contents.{highest, is_top_of, tops, chosen}
use Rattle.theory_base.proofs.Lists.{both_l, both_r, both-i, filter-append}
use Rattle.theory_log.specs.Contents.{Mem}
use Rattle.theory_log.proofs.Contents.{below-highest, chosen_is, none_of, mem-filter, filter-mem}
use Rattle.theory_log.proofs.Tops.{chosen-top, top-highest}
use Rattle.theory_log.proofs.Clean.{mem-placed}
use Rattle.theory_log.proofs.Places.{Rising, rising-from, rising-in}
use Rattle.volatile.specs.Known.{entry_count, several, info_of}
use Rattle.volatile.proofs.Info.{chosen-first, info-other}
use Rattle.forward.specs.Once.{OneEach}

-- ## One top entry

-- no other entry of the key is as high
pub single-sole : (k : ℕ) (es : List Entry) (f : Entry) → several k es ≡ 0 → chosen k es ≡ some f → (g : Entry) → Mem g es → g.key ≡ k → f.version ≤ g.version → g ≡ f
unfolding tops
single-sole k es f s h g m q l = go t.0 t.1
  where
    c : f.key ≡ k
    c = (chosen_is k es f h).of-key

    t : (rest : List Entry) × (tops k es ≡ f ∷ rest)
    t = chosen-first k es f h

    v : f.version ≡ highest k es
    v = top-highest es f (chosen-top k es f h) ∙ ap (λ (j : ℕ). highest j es) c

    here : Mem g (tops k es)
    here =
        let u = below-highest k es g m q in
        filter-mem (is_top_of k (highest k es)) g es m (both-i (eqb g.key k) (eqb g.version (highest k es)) (eq-eqb g.key k q) (eq-eqb g.version (highest k es) (omega (arith, v))))

    one : (ts : List Entry) → tops k es ≡ ts → Mem g ts
    one ts e = rw e at here

    go : (rest : List Entry) → tops k es ≡ f ∷ rest → g ≡ f
    go [] e = elim (one (f ∷ []) e) [ inl p ↦ p | inr n ↦ absurd n ]
    go (x ∷ xs) e =
        let n : several k es ≡ 1 = rw (e, le-leb 2 (suc (suc (length xs))) (omega arith)) in
        absurd (omega (arith, s))

-- and such an entry is the chosen one, wherever it stands
pub sole-chosen : (k : ℕ) (es : List Entry) (f : Entry) → Mem f es → f.key ≡ k → ((g : Entry) → Mem g es → g.key ≡ k → f.version ≤ g.version → g ≡ f) → chosen k es ≡ some f
sole-chosen k es f m q sole = go (chosen k es) refl
  where
    go : (o : Option Entry) → chosen k es ≡ o → o ≡ some f
    go none h = absurd (none_of k es f h m q)
    go (some g) h = let c = chosen_is k es g h in ap some (sole g c.in_list c.of-key (c.above f m q))

rising-filter : (test : Entry → Bool) (lo hi : ℕ) (es : List Entry) → Rising lo hi es → Rising lo hi (filter test es)
rising-filter test lo hi [] r = r
rising-filter test lo hi (x ∷ xs) r = go (test x) (rising-filter test (suc x.at) hi xs r.1)
  where
    go : (b : Bool) → Rising (suc x.at) hi (filter test xs) → Rising lo hi (pick b (x ∷ filter test xs) (filter test xs))
    go true s = (r.0, s)
    go false s = let a : lo ≤ x.at = r.0 in rising-from (suc x.at) lo hi (filter test xs) (omega arith) s

pub sole-single : (lo hi k : ℕ) (es : List Entry) (f : Entry) → Rising lo hi es → Mem f es → f.key ≡ k → ((g : Entry) → Mem g es → g.key ≡ k → f.version ≤ g.version → g ≡ f) → several k es ≡ 0
unfolding tops
sole-single lo hi k es f r m q sole = go (filter (is_top_of k (highest k es)) es) refl (rising-filter (is_top_of k (highest k es)) lo hi es r)
  where
    mine : (g : Entry) → Mem g (filter (is_top_of k (highest k es)) es) → g ≡ f
    mine g n =
        let p = mem-filter (is_top_of k (highest k es)) g es n in
        let v = eqb-true g.version (highest k es) (both_r (eqb g.key k) (eqb g.version (highest k es)) p.1) in
        let u = below-highest k es f m q in
        sole g p.0 (eqb-true g.key k (both_l (eqb g.key k) (eqb g.version (highest k es)) p.1)) (omega arith)

    go : (ts : List Entry) → filter (is_top_of k (highest k es)) es ≡ ts → Rising lo hi ts → ◌≡◌ {A = ℕ} (pick (leb 2 (length ts)) 1 0) 0
    go [] e s = refl
    go (a ∷ []) e s = refl
    go (a ∷ (b ∷ ts)) e s =
        let x : a ≡ f = mine a (rw e (inl refl)) in
        let y : b ≡ f = mine b (rw e (inr (inl refl))) in
        let z : a.at ≡ b.at = ap (λ (e : Entry). e.at) (x ∙ sym y) in
        let w : suc a.at ≤ b.at = s.1.0 in
        absurd (omega arith)

-- ## One entry for each key

pub once-rising : (lo hi : ℕ) (es : List Entry) → Rising lo hi es → ((e f : Entry) → Mem e es → Mem f es → e.key ≡ f.key → e ≡ f) → OneEach es
once-rising lo hi [] r h = tt
once-rising lo hi (x ∷ xs) r h = (
  λ d m q.
      let z : d.at ≡ x.at = ap (λ (e : Entry). e.at) (h d x (inr m) (inl refl) q) in
      let w = (rising-in (suc x.at) hi xs d r.1 m).0 in omega arith,
  once-rising (suc x.at) hi xs r.1 (λ e f m n q. h e f (inr m) (inr n) q),
)

pub once-filter : (test : Entry → Bool) (lo hi : ℕ) (es : List Entry) → Rising lo hi es
    → ((e f : Entry) → Mem e (filter test es) → Mem f (filter test es) → e.key ≡ f.key → e ≡ f) → OneEach (filter test es)
once-filter test lo hi es r h = once-rising lo hi (filter test es) (rising-filter test lo hi es r) h

pub once-placed : (at : ℕ) (es : List Entry) → OneEach es → OneEach (placed at es)
once-placed at [] o = tt
once-placed at (x ∷ xs) o = (
  λ d m q. let r = mem-placed d (at + (2 + length x.value)) xs m in o.0 r.0 r.1 (sym (ap (λ (e : Entry). e.key) r.3) ∙ q),
  once-placed (at + (2 + length x.value)) xs o.1,
)

pub once-same : (es : List Entry) → OneEach es → (c d : Entry) → Mem c es → Mem d es → c.key ≡ d.key → c ≡ d
once-same [] o c d m n q = absurd m
once-same (x ∷ xs) o c d (inl a) (inl b) q = a ∙ sym b
once-same (x ∷ xs) o c d (inl a) (inr n) q = absurd (o.0 d n (sym q ∙ ap (λ (e : Entry). e.key) a))
once-same (x ∷ xs) o c d (inr m) (inl b) q = absurd (o.0 c m (q ∙ ap (λ (e : Entry). e.key) b))
once-same (x ∷ xs) o c d (inr m) (inr n) q = once-same xs o.1 c d m n q

-- ## How many entries a key has

pub count-append : (k : ℕ) (xs ys : List Entry) → entry_count k (xs ++ ys) ≡ entry_count k xs + entry_count k ys
count-append k xs ys =
    let test : (Entry → Bool) = λ (e : Entry). eqb e.key k in
    ap length (filter-append test xs ys) ∙ length-append (filter test xs) (filter test ys)

pub count-own : (k : ℕ) (e : Entry) (es : List Entry) → e.key ≡ k → entry_count k (e ∷ es) ≡ entry_count k es + 1
count-own k e es q = rw (eq-eqb e.key k q) (omega arith)

pub count-other : (k : ℕ) (e : Entry) (es : List Entry) → (e.key ≡ k → ⊥) → entry_count k (e ∷ es) ≡ entry_count k es
count-other k e es n = rw (ne_eqb e.key k n)

pub count-known : (k : ℕ) (es : List Entry) (e : Entry) → Mem e es → e.key ≡ k → 1 ≤ entry_count k es
count-known k [] e m q = absurd m
count-known k (x ∷ xs) e (inl p) q = let y : x.key ≡ k = sym (ap (λ (f : Entry). f.key) p) ∙ q in let c = count-own k x xs y in omega arith
count-known k (x ∷ xs) e (inr m) q = go (eqb x.key k) (count-known k xs e m q) (eqb-true x.key k) (eqb-false x.key k)
  where
    go : (b : Bool) → 1 ≤ entry_count k xs → (b ≡ true → x.key ≡ k) → (b ≡ false → x.key ≡ k → ⊥) → 1 ≤ entry_count k (x ∷ xs)
    go true h y n = let c = count-own k x xs (y refl) in omega arith
    go false h y n = let c = count-other k x xs (n refl) in omega arith

pub count_no : (k : ℕ) (es : List Entry) → ((e : Entry) → Mem e es → e.key ≡ k → ⊥) → entry_count k es ≡ 0
count_no k [] h = refl
count_no k (e ∷ es) h = count-other k e es (h e (inl refl)) ∙ count_no k es (λ f m. h f (inr m))

pub count-one : (k : ℕ) (es : List Entry) → OneEach es → (c : Entry) → Mem c es → c.key ≡ k → entry_count k es ≡ 1
count-one k [] o c m q = absurd m
count-one k (x ∷ xs) o c (inl p) q =
    let y : x.key ≡ k = sym (ap (λ (e : Entry). e.key) p) ∙ q in
    let z = count_no k xs (λ d n r. o.0 d n (r ∙ sym y)) in
    let w = count-own k x xs y in
    omega arith
count-one k (x ∷ xs) o c (inr m) q = count-other k x xs (λ y. o.0 c m (q ∙ sym y)) ∙ count-one k xs o.1 c m q

pub count-placed : (k at : ℕ) (es : List Entry) → entry_count k (placed at es) ≡ entry_count k es
count-placed k at [] = refl
count-placed k at (x ∷ xs) = go (eqb x.key k) (count-placed k (at + (2 + length x.value)) xs)
  where
    rest : List Entry
    rest = placed (at + (2 + length x.value)) xs

    go : (b : Bool) → entry_count k (placed (at + (2 + length x.value)) xs) ≡ entry_count k xs
        → length (pick b (moved at x ∷ filter (λ (e : Entry). eqb e.key k) (placed (at + (2 + length x.value)) xs)) (filter (λ (e : Entry). eqb e.key k) (placed (at + (2 + length x.value)) xs)))
        ≡ length (pick b (x ∷ filter (λ (e : Entry). eqb e.key k) xs) (filter (λ (e : Entry). eqb e.key k) xs))
    go true h = ap suc h
    go false h = h

-- ## A key of which the chunk has nothing

pub info-without : (sz : Size) → (k : ℕ) (xs mid ys : List Entry) → ((e : Entry) → Mem e mid → e.key ≡ k → ⊥) → info_of sz k (xs ++ (mid ++ ys)) ≡ info_of sz k (xs ++ ys)
info-without sz k xs [] ys h = refl
info-without sz k xs (e ∷ es) ys h = info-other sz k xs (es ++ ys) e (h e (inl refl)) ∙ info-without sz k xs es ys (λ f m. h f (inr m))
