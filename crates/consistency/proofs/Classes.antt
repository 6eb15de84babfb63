-- The laws of classes: every key has one, a range has all entries of its keys, and two ranges side by side are one.
-- Assumes nothing.
use mathlib.Core.Path.{◌≡◌, refl, sym, ◌∙◌, ap}
use mathlib.Core.Logic.{◌⊎◌, inl, inr}
use mathlib.Core.Bool.{Bool, true, false}
use mathlib.Core.List.{List, [], ◌∷◌}
use Prim.Native.Nat.{ℕ, ◌≤◌, ◌<◌}
use native.Mathlib.Decide.{dec_lt}
use native.Mathlib.Omega.{arith}
use lib.Dec.{eqb, leb, ltb}
use lib.ListN.{length}
use borrow.Author.Tests.{ne_eqb, leb-true, ltb-true, le-leb, lt-ltb}
use Rattle.spec.specs.declared.Size.{Size}
use Rattle.spec.specs.Basics.{pick, larger, filter, first}
use Rattle.spec.specs.Log.{Entry}
use Rattle.spec.specs.Contents.{highest, is_top_of, tops, chosen}
use Rattle.theory_base.proofs.Lists.{not-both, both_l, both_r, both-i, filter-all, filter-length}
use Rattle.theory_log.proofs.Contents.{mem-filter}
use Rattle.theory_log.proofs.Tops.{in_all}
use Rattle.volatile.specs.Known.{several, Bounded}
use Rattle.consistency.specs.Classes.{class_of, within, class_in}

-- ## Ranges

pub class-small : (key : ℕ) → class_of key < 0x1_0000_0000
unfolding class_of
class-small key = omega arith

pub within-is : (low high key : ℕ) → within low high key ≡ true → (low ≤ class_of key) × (class_of key < high)
within-is low high key h = (leb-true low (class_of key) (both_l _ _ h), ltb-true (class_of key) high (both_r (leb low (class_of key)) _ h))

pub is_within : (low high key : ℕ) → low ≤ class_of key → class_of key < high → within low high key ≡ true
is_within low high key a b = both-i (leb low (class_of key)) (ltb (class_of key) high) (le-leb low (class_of key) a) (lt-ltb (class_of key) high b)

pub not_within : (low high key : ℕ) → (low ≤ class_of key → class_of key < high → ⊥) → within low high key ≡ false
not_within low high key n = go (within low high key) refl
  where
    go : (b : Bool) → within low high key ≡ b → b ≡ false
    go false q = refl
    go true q = let w = within-is low high key q in absurd (n w.0 w.1)

pub within_all : (key : ℕ) → within 0 0x1_0000_0000 key ≡ true
within_all key = is_within 0 0x1_0000_0000 key (omega arith) (class-small key)

-- a key of the first of two ranges side by side is none of the second, and one of both is one of either
module _ (low high key : ℕ) (h : low ≤ high) where
  pub within-other : within 0 low key ≡ true → within low high key ≡ false
  within-other a = let w = within-is 0 low key a in not_within low high key (λ l m. let x = w.1 in omega arith)

  pub within_first : within 0 low key ≡ true → within 0 high key ≡ true
  within_first a = let w = within-is 0 low key a in let x = w.1 in is_within 0 high key (omega arith) (omega arith)

  pub within-second : within low high key ≡ true → within 0 high key ≡ true
  within-second a = is_within 0 high key (omega arith) (within-is low high key a).1

  pub within-either : within 0 high key ≡ true → (within 0 low key ≡ true) ⊎ (within low high key ≡ true)
  within-either a = go (dec_lt (class_of key) low)
    where
      go : Dec (class_of key < low) → (within 0 low key ≡ true) ⊎ (within low high key ≡ true)
      go (yes l) = inl (is_within 0 low key (omega arith) l)
      go (no l) = inr (is_within low high key (omega arith) (within-is 0 high key a).1)

-- ## The entries of a range

pub class-all : (es : List Entry) → class_in 0 0x1_0000_0000 es ≡ es
class-all es = filter-all (λ (e : Entry). within 0 0x1_0000_0000 e.key) es (in_all _ es (λ e m. within_all e.key))

pub class-bounded : (size : Size) → (low high : ℕ) (es : List Entry) → Bounded size es → Bounded size (class_in low high es)
class-bounded size low high es b =
    let l = filter-length (λ (e : Entry). within low high e.key) es in
    let f = b.few in
    record { each = λ e m. b.each e (mem-filter (λ (x : Entry). within low high x.key) e es m).0; few = omega arith }

-- what a part of the entries that has all of a key says of it
module _ (k : ℕ) (test : Entry → Bool) (own : (e : Entry) → e.key ≡ k → test e ≡ true) where
  other : (e : Entry) → test e ≡ false → eqb e.key k ≡ false
  other e q = ne_eqb e.key k (λ y. not-both (test e) (own e y) q)

  highest-part : (es : List Entry) → highest k (filter test es) ≡ highest k es
  highest-part [] = refl
  highest-part (e ∷ es) = go (test e) refl (highest-part es)
    where
      go : (t : Bool) → test e ≡ t → highest k (filter test es) ≡ highest k es → highest k (pick t (e ∷ filter test es) (filter test es)) ≡ highest k (e ∷ es)
      go true q h = ap (λ (x : ℕ). pick (eqb e.key k) (larger e.version x) x) h
      go false q h = h ∙ sym (rw (other e q))

  part_of : (h : ℕ) (es : List Entry) → filter (is_top_of k h) (filter test es) ≡ filter (is_top_of k h) es
  part_of h [] = refl
  part_of h (e ∷ es) = go (test e) refl (part_of h es)
    where
      go : (t : Bool) → test e ≡ t → filter (is_top_of k h) (filter test es) ≡ filter (is_top_of k h) es → filter (is_top_of k h) (pick t (e ∷ filter test es) (filter test es)) ≡ filter (is_top_of k h) (e ∷ es)
      go true q r = ap (λ (l : List Entry). pick (is_top_of k h e) (e ∷ l) l) r
      go false q r = r ∙ sym (rw (other e q))

  tops-part : (es : List Entry) → tops k (filter test es) ≡ tops k es
  unfolding tops
  tops-part es = ap (λ (h : ℕ). filter (is_top_of k h) (filter test es)) (highest-part es) ∙ part_of (highest k es) es

module _ (low high k : ℕ) (own : within low high k ≡ true) (es : List Entry) where
  class-tops : tops k (class_in low high es) ≡ tops k es
  class-tops = tops-part k (λ (e : Entry). within low high e.key) (λ e q. ap (within low high) q ∙ own) es

  pub class-chosen : chosen k (class_in low high es) ≡ chosen k es
  unfolding chosen
  class-chosen = ap first class-tops

  pub class-several : several k (class_in low high es) ≡ several k es
  class-several = ap (λ (l : List Entry). pick (leb 2 (length l)) 1 0) class-tops
