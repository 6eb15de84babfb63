-- The known keys of entries, and how many there are.
-- Assumes nothing.
use mathlib.Core.Path.{◌≡◌, refl, sym, ◌∙◌, ap}
use mathlib.Core.Logic.{inl, inr}
use mathlib.Core.Bool.{Bool, true, false}
use mathlib.Core.Option.{Option, none, some}
use mathlib.Core.List.{List, [], ◌∷◌, ◌++◌, map}
use Prim.Native.Nat.{ℕ, ◌≤◌}
use native.Mathlib.Omega.{arith}
use lib.ListN.{length}
use Rattle.spec.specs.Basics.{either, is_some, is_in}
use Rattle.spec.specs.Medium.{Mem as Among}
use Rattle.spec.specs.Log.{Entry}
use Rattle.spec.specs.Contents.{chosen, known, keys_of}
use Rattle.theory_log.specs.Contents.{Mem}
use Rattle.theory_base.proofs.Lists.{not-both, is_in-mem, mem-is_in, distinct-is, distinct-fewer, distinct-equal}
use Rattle.theory_log.proofs.Contents.{mem-l, mem-r, mem-cases, chosen_is, none_of, chosen_none}

abbrev pub key_list : List Entry → List ℕ
key_list es = map (λ (e : Entry). e.key) es

pub key-mem : (e : Entry) (es : List Entry) → Mem e es → Among e.key (key_list es)
key-mem e [] m = absurd m
key-mem e (x ∷ xs) (inl q) = inl (ap (λ (y : Entry). y.key) q)
key-mem e (x ∷ xs) (inr m) = inr (key-mem e xs m)

pub mem-key : (k : ℕ) (es : List Entry) → Among k (key_list es) → (e : Entry) × Mem e es × (e.key ≡ k)
mem-key k [] m = absurd m
mem-key k (x ∷ xs) (inl q) = (x, inl refl, sym q)
mem-key k (x ∷ xs) (inr m) = let r = mem-key k xs m in (r.0, inr r.1, r.2)

-- A key is known if it has an entry.
pub mem-known : (k : ℕ) (es : List Entry) (e : Entry) → Mem e es → e.key ≡ k → known k es ≡ true
mem-known k es e m q = go (chosen k es) refl
  where
    go : (c : Option Entry) → chosen k es ≡ c → is_some c ≡ true
    go none h = absurd (none_of k es e h m q)
    go (some f) h = refl

pub known-mem : (k : ℕ) (es : List Entry) → known k es ≡ true → (e : Entry) × Mem e es × (e.key ≡ k)
known-mem k es h = go (chosen k es) refl h
  where
    go : (c : Option Entry) → chosen k es ≡ c → is_some c ≡ true → (e : Entry) × Mem e es × (e.key ≡ k)
    go none q t = absurd (let z : ◌≡◌ {A = ℕ} 0 1 = cc in omega arith)
    go (some e) q t = let c = chosen_is k es e q in (e, c.in_list, c.of-key)

pub keys-known : (k : ℕ) (es : List Entry) → is_in k (keys_of es) ≡ known k es
keys-known k es = go (known k es) refl (is_in k (keys_of es)) refl
  where
    go : (a : Bool) → known k es ≡ a → (b : Bool) → is_in k (keys_of es) ≡ b → b ≡ a
    go true h true g = refl
    go false h false g = refl
    go true h false g =
        let r = known-mem k es h in
        absurd (not-both (is_in k (keys_of es)) (distinct-is k (key_list es) ∙ mem-is_in k (key_list es) (rw r.2 at (key-mem r.0 es r.1))) g)
    go false h true g =
        let r = mem-key k es (is_in-mem k (key_list es) (sym (distinct-is k (key_list es)) ∙ g)) in
        absurd (not-both (known k es) (mem-known k es r.0 r.1 r.2) h)

pub known-append : (k : ℕ) (xs ys : List Entry) → known k (xs ++ ys) ≡ either (known k xs) (known k ys)
known-append k xs ys = go (known k xs) refl (known k ys) refl
  where
    no_key : (es : List Entry) → known k es ≡ false → (e : Entry) → Mem e es → e.key ≡ k → ⊥
    no_key es h e m q = not-both (known k es) (mem-known k es e m q) h

    go : (a : Bool) → known k xs ≡ a → (b : Bool) → known k ys ≡ b → known k (xs ++ ys) ≡ either a b
    go true h b g = let r = known-mem k xs h in mem-known k (xs ++ ys) r.0 (mem-l r.0 xs ys r.1) r.2
    go false h true g = let r = known-mem k ys g in mem-known k (xs ++ ys) r.0 (mem-r r.0 xs ys r.1) r.2
    go false h false g = ap is_some (chosen_none k (xs ++ ys) (λ f m q. elim (mem-cases f xs ys m) [ inl a ↦ no_key xs h f a q | inr b ↦ no_key ys g f b q ]))

-- Their number follows them.
key-into : (xs ys : List Entry) → ((k : ℕ) → known k xs ≡ true → known k ys ≡ true) → (k : ℕ) → Among k (key_list xs) → Among k (key_list ys)
key-into xs ys h k m =
    let r = mem-key k xs m in
    let s = known-mem k ys (h k (mem-known k xs r.0 r.1 r.2)) in
    rw s.2 at (key-mem s.0 ys s.1)

pub keys-fewer : (xs ys : List Entry) → ((k : ℕ) → known k xs ≡ true → known k ys ≡ true) → length (keys_of xs) ≤ length (keys_of ys)
keys-fewer xs ys h = distinct-fewer (key_list xs) (key_list ys) (key-into xs ys h)

pub keys-equal : (xs ys : List Entry) → ((k : ℕ) → known k xs ≡ known k ys) → length (keys_of xs) ≡ length (keys_of ys)
keys-equal xs ys h = distinct-equal (key_list xs) (key_list ys) (key-into xs ys (λ k t. sym (h k) ∙ t)) (key-into ys xs (λ k t. h k ∙ t))
