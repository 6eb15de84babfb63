-- Top entries: the test and the claim are one, contents look at their meaning alone, and those of a key that agree are
-- the same.
-- Assumes nothing.
use mathlib.Core.Path.{◌≡◌, refl, sym, ◌∙◌, ap}
use mathlib.Core.Logic.{inl, inr}
use mathlib.Core.Bool.{Bool, true, false}
use mathlib.Core.Option.{Option, none, some}
use mathlib.Core.List.{List, [], ◌∷◌}
use Prim.Native.Nat.{ℕ, ◌≤◌}
use native.Mathlib.Omega.{arith}
use lib.Dec.{eqb}
use borrow.Author.Tests.{eqb-true, eq-eqb}
use Rattle.spec.specs.Basics.{pick, all}
use Rattle.spec.specs.Log.{Entry, moved}
use Rattle.spec.specs.Contents.{Held, Absent, is_top, highest, chosen, held, contents_by, meaning}
use Rattle.spec.specs.Opening.{each_top}
use Rattle.theory_log.specs.Contents.{Mem, Same, Agree, Top}
use Rattle.theory_base.proofs.Lists.{both_l, both_r, both-i, pick-i, pick-e}
use Rattle.theory_log.proofs.Contents.{version_of, chosen-best, highest-best, below-highest, chosen_is, none_of}

-- A test of each entry.
pub all_in : (p : Entry → Bool) (es : List Entry) → all p es ≡ true → (e : Entry) → Mem e es → p e ≡ true
all_in p [] h e m = absurd m
all_in p (x ∷ xs) h e (inl q) = ap p q ∙ both_l (p x) (all p xs) h
all_in p (x ∷ xs) h e (inr m) = all_in p xs (both_r (p x) (all p xs) h) e m

pub in_all : (p : Entry → Bool) (es : List Entry) → ((e : Entry) → Mem e es → p e ≡ true) → all p es ≡ true
in_all p [] h = refl
in_all p (x ∷ xs) h = both-i (p x) (all p xs) (h x (inl refl)) (in_all p xs (λ e m. h e (inr m)))

-- Top entries.
pub chosen-top : (k : ℕ) (es : List Entry) (e : Entry) → chosen k es ≡ some e → Top es e
chosen-top k es e h = let c = chosen_is k es e h in (c.in_list, λ f m q. c.above f m (q ∙ c.of-key))

pub twin-top : (k : ℕ) (es : List Entry) (e f : Entry) → chosen k es ≡ some e → Mem f es → f.key ≡ k → f.version ≡ e.version → Top es f
twin-top k es e f h m q v = let c = chosen_is k es e h in (m, λ g n r. let u : g.version ≤ e.version = c.above g n (r ∙ q) in omega arith)

pub top-highest : (es : List Entry) (e : Entry) → Top es e → e.version ≡ highest e.key es
top-highest es e (m, above) = go (chosen e.key es) refl
  where
    go : (q : Option Entry) → chosen e.key es ≡ q → e.version ≡ highest e.key es
    go none h = absurd (none_of e.key es e h m refl)
    go (some f) h =
        let c = chosen_is e.key es f h in
        let v : f.version ≡ highest e.key es = sym (ap version_of (sym (chosen-best e.key es) ∙ h)) ∙ highest-best e.key es in
        let a = below-highest e.key es e m refl in
        let b = above f c.in_list c.of-key in
        omega arith

pub top-is : (es : List Entry) (e : Entry) → Top es e → is_top es e ≡ true
top-is es e t = eq-eqb e.version (highest e.key es) (top-highest es e t)

pub is-top : (es : List Entry) (e : Entry) → Mem e es → is_top es e ≡ true → Top es e
is-top es e m h = (m, λ f n q. let a = below-highest e.key es f n q in let b = eqb-true e.version (highest e.key es) h in omega arith)

-- the chosen entry of a top entry's key has its version
pub top-chosen : (es : List Entry) (e : Entry) → Top es e → (f : Entry) × (chosen e.key es ≡ some f) × Mem f es × (f.key ≡ e.key) × (f.version ≡ e.version)
top-chosen es e t = go (chosen e.key es) refl
  where
    go : (q : Option Entry) → chosen e.key es ≡ q → (f : Entry) × (q ≡ some f) × Mem f es × (f.key ≡ e.key) × (f.version ≡ e.version)
    go none h = absurd (none_of e.key es e h t.0 refl)
    go (some f) h =
        let c = chosen_is e.key es f h in
        let u = t.1 f c.in_list c.of-key in
        let v = c.above e t.0 refl in
        (f, refl, c.in_list, c.of-key, omega arith)

-- A test of each top entry.
pub top-each : (es : List Entry) (test : Entry → Bool) → each_top es test ≡ true → (e : Entry) → Top es e → test e ≡ true
top-each es test h e t = pick-e (is_top es e) (test e) (all_in (λ f. pick (is_top es f) (test f) true) es h e t.0) (top-is es e t)

pub each-top : (es : List Entry) (test : Entry → Bool) → ((e : Entry) → Top es e → test e ≡ true) → each_top es test ≡ true
each-top es test h = in_all (λ f. pick (is_top es f) (test f) true) es (λ e m. pick-i (is_top es e) (test e) (λ q. h e (is-top es e m q)))

-- what contents take from `mean`: the meaning of top entries
pub contents-mean : (mean mean' : Entry → Held) (es : List Entry) → ((e : Entry) → Top es e → mean' e ≡ mean e) → (k : ℕ) → contents_by mean' es k ≡ contents_by mean es k
contents-mean mean mean' es h k = go (chosen k es) refl
  where
    go : (q : Option Entry) → chosen k es ≡ q → held mean' q ≡ held mean q
    go none p = refl
    go (some e) p = h e (chosen-top k es e p)

-- top entries of a key that agree are the same
pub tops-same : (es : List Entry) → Agree es → (e f : Entry) → Top es e → Top es f → e.key ≡ f.key → Same e f
tops-same es a e f te tf q =
    let c = top-chosen es e te in
    let d = chosen-top e.key es c.0 c.1 in
    let x = d.1 f tf.0 (sym q ∙ sym c.3) in
    let y = tf.1 c.0 c.2 (c.3 ∙ q) in
    a e.key c.0 e c.1 te.0 refl (sym c.4) ∙ sym (a e.key c.0 f c.1 tf.0 (sym q) (omega arith))

-- The meaning of an entry does not depend on its place, and a delete means absent.
pub meaning-moved : (ws : List ℕ) (a : ℕ) (e : Entry) → meaning ws (moved a e) ≡ meaning ws e
meaning-moved ws a e = refl

pub meaning-delete : (ws : List ℕ) (e : Entry) → eqb e.op 1 ≡ false → meaning ws e ≡ Absent
meaning-delete ws e h = rw h
