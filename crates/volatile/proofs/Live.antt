-- The live blocks: those of the top puts, and that of one key's.
-- Assumes nothing.
use Rattle.std.proofs.Common.{◌≡◌, ℕ, Bool, true, false, eqb, ◌⊎◌, List, [], ◌∷◌, ◌++◌, map, sym, refl, ap, ◌∙◌, inl, inr, eq-eqb, eqb-true}
use mathlib.Core.Option.{Option, none, some}
use Rattle.spec.specs.Basics.{pick, both, either, filter, any, is_in}
use Rattle.spec.specs.Log.{Entry}
use Rattle.spec.specs.Blocks.{pointed}
use Rattle.spec.specs.Contents.{is_top, chosen, pointers, live_blocks}
use Rattle.theory_base.proofs.Lists.{not-both, both_l, both_r, both-i}
use Rattle.theory_log.specs.Contents.{Mem, Top, Agree}
use Rattle.theory_log.proofs.Contents.{mem-l, mem-r, mem-cases, chosen_is}
use Rattle.theory_log.proofs.Tops.{top-is, is-top, chosen-top, top-chosen, tops-same}
use Rattle.volatile.proofs.Marks.{any-in, in-any}
use Rattle.volatile.specs.Blocks.{points, block_of, top_block}

-- Entries put anywhere into a list.
pub mem-between : (f : Entry) (xs more ys : List Entry) → Mem f (xs ++ (more ++ ys)) → Mem f more ⊎ Mem f (xs ++ ys)
mem-between f xs more ys m = go (mem-cases f xs (more ++ ys) m)
  where
    go : Mem f xs ⊎ Mem f (more ++ ys) → Mem f more ⊎ Mem f (xs ++ ys)
    go (inl a) = inr (mem-l f xs ys a)
    go (inr b) = elim (mem-cases f more ys b) [ inl c ↦ inl c | inr d ↦ inr (mem-r f xs ys d) ]

pub mem-around : (f : Entry) (xs more ys : List Entry) → Mem f (xs ++ ys) → Mem f (xs ++ (more ++ ys))
mem-around f xs more ys m = elim (mem-cases f xs ys m) [ inl a ↦ mem-l f xs (more ++ ys) a | inr b ↦ mem-r f xs (more ++ ys) (mem-r f more ys b) ]

-- A block is pointed to if some entry points to it.
pointers-any : (u : ℕ) (es : List Entry) → is_in u (pointers es) ≡ any (points u) es
pointers-any u [] = refl
pointers-any u (e ∷ es) = go (pointed e) (pointers-any u es)
  where
    go : (b : Bool) → is_in u (pointers es) ≡ any (points u) es
        → is_in u (map (λ (f : Entry). f.field) (pick b (e ∷ filter pointed es) (filter pointed es))) ≡ either (both b (eqb e.field u)) (any (points u) es)
    go true h = ap (either (eqb e.field u)) h
    go false h = h

any-filter : (test other : Entry → Bool) (es : List Entry) → any other (filter test es) ≡ any (λ e. both (test e) (other e)) es
any-filter test other [] = refl
any-filter test other (e ∷ es) = go (test e) (any-filter test other es)
  where
    go : (b : Bool) → any other (filter test es) ≡ any (λ e. both (test e) (other e)) es
        → any other (pick b (e ∷ filter test es) (filter test es)) ≡ either (both b (other e)) (any (λ e. both (test e) (other e)) es)
    go true h = ap (either (other e)) h
    go false h = h

live-any : (u : ℕ) (es : List Entry) → is_in u (live_blocks es) ≡ any (λ e. both (is_top es e) (points u e)) es
live-any u es = pointers-any u (filter (is_top es) es) ∙ any-filter (is_top es) (points u) es

-- a top put in the block at unit u
pub record Holder (es : List Entry) (u : ℕ) : Type 0 where
  pub entry : Entry
  pub top : Top es entry
  pub puts : pointed entry ≡ true
  pub unit : entry.field ≡ u

pub holder : (es : List Entry) (u : ℕ) (f : Entry) → Top es f → points u f ≡ true → Holder es u
holder es u f t h = record { entry = f; top = t; puts = both_l (pointed f) (eqb f.field u) h; unit = eqb-true f.field u (both_r (pointed f) (eqb f.field u) h) }

pointing : (es : List Entry) (u : ℕ) (h : Holder es u) → points u h.entry ≡ true
pointing es u h = both-i (pointed h.entry) (eqb h.entry.field u) h.puts (eq-eqb h.entry.field u h.unit)

pub live-holder : (es : List Entry) (u : ℕ) → is_in u (live_blocks es) ≡ true → Holder es u
live-holder es u h =
    let r = in-any (λ e. both (is_top es e) (points u e)) es (sym (live-any u es) ∙ h) in
    holder es u r.0 (is-top es r.0 r.1 (both_l (is_top es r.0) (points u r.0) r.2)) (both_r (is_top es r.0) (points u r.0) r.2)

pub holder-live : (es : List Entry) (u : ℕ) → Holder es u → is_in u (live_blocks es) ≡ true
holder-live es u h =
    let f = h.entry in
    live-any u es ∙ any-in (λ e. both (is_top es e) (points u e)) es f h.top.0 (both-i (is_top es f) (points u f) (top-is es f h.top) (pointing es u h))

-- and one of key k
pub own-holder : (k : ℕ) (es : List Entry) (u : ℕ) → top_block k es u ≡ true → (h : Holder es u) × (h.entry.key ≡ k)
unfolding holder
own-holder k es u t = go (chosen k es) refl t
  where
    go : (q : Option Entry) → chosen k es ≡ q → block_of q u ≡ true → (h : Holder es u) × (h.entry.key ≡ k)
    go none c t = absurd (not-both true refl (sym t))
    go (some f) c t = (holder es u f (chosen-top k es f c) t, (chosen_is k es f c).of-key)

pub holder-own : (k : ℕ) (es : List Entry) (u : ℕ) → Agree es → (h : Holder es u) → h.entry.key ≡ k → top_block k es u ≡ true
holder-own k es u agree h q =
    let f = h.entry in
    let c = top-chosen es f h.top in
    let s = tops-same es agree c.0 f (chosen-top f.key es c.0 c.1) h.top c.3 in
    let own : chosen k es ≡ some c.0 = ap (λ (j : ℕ). chosen j es) (sym q) ∙ c.1 in
    ap (λ (x : Option Entry). block_of x u) own ∙ ap (points u) s ∙ pointing es u h
