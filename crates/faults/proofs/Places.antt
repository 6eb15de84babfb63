-- The least of the places at which a test holds, found in any order, is the place of the first entry of which it holds.
-- Assumes nothing.
use mathlib.Core.Path.{◌≡◌, refl, sym, ◌∙◌, ap}
use mathlib.Core.Logic.{◌⊎◌, inl, inr}
use mathlib.Core.Bool.{Bool, true, false}
use mathlib.Core.List.{List, [], ◌∷◌}
use Rattle.std.specs.Prelude.{Option as Maybe, Some, None}
use Prim.Native.Nat.{ℕ, suc, ◌≤◌, min}
use native.Mathlib.Decide.{dec_le}
use native.Mathlib.Omega.{arith}
use Rattle.spec.specs.Basics.{pick, filter, first}
use Rattle.spec.specs.Log.{Entry}
use Rattle.theory_base.proofs.Lists.{not-both}
use Rattle.theory_log.specs.Contents.{Mem}
use Rattle.theory_log.proofs.Places.{Rising, rising-in}
use Rattle.faults.specs.Tops.{place_of}
use Rattle.faults.specs.Spots.{least, Reaches, StandsAt}

-- ## One more place

pub least-own : (so : Maybe ℕ) (at : ℕ) → Reaches (least so at) at
least-own None at = omega arith
least-own (Some so) at = omega arith

pub least-keeps : (so : Maybe ℕ) (at x : ℕ) → Reaches so x → Reaches (least so at) x
least-keeps None at x r = absurd r
least-keeps (Some so) at x r = omega arith

-- what is reached from a place is reached from one behind it
pub reaches-behind : (so : Maybe ℕ) (a b : ℕ) → Reaches so a → a ≤ b → Reaches so b
reaches-behind None a b r l = absurd r
reaches-behind (Some so) a b r l = omega arith

pub least-stands : (es : List Entry) (test : Entry → Bool) (so : Maybe ℕ) (e : Entry) → Mem e es → test e ≡ true → StandsAt es test so → StandsAt es test (least so e.at)
least-stands es test None e m t stands = (e, m, t, refl)
least-stands es test (Some so) e m t stands = go (dec_le so e.at)
  where
    go : Dec (so ≤ e.at) → StandsAt es test (Some (min so e.at))
    go (yes l) = let i : min so e.at ≡ so = omega arith in (stands.0, stands.1, stands.2, stands.3 ∙ sym i)
    go (no l) = let i : min so e.at ≡ e.at = omega arith in (e, m, t, sym i)

-- ## All places

module _ (test : Entry → Bool) where
  -- of an entry and those behind it, the entry's place is the least where the test holds of it
  met : (x : Entry) (xs : List Entry) (hi so : ℕ) → Rising (suc x.at) hi xs → so ≤ x.at → (e : Entry) → (e ≡ x) ⊎ Mem e xs → e.at ≡ so → Some so ≡ Some x.at
  met x xs hi so rises l e (inl p) q = ap Some (sym q ∙ ap (λ (y : Entry). y.at) p)
  met x xs hi so rises l e (inr m) q = let b = (rising-in (suc x.at) hi xs e rises m).0 in absurd (omega arith)

  tail : (x : Entry) (xs : List Entry) → test x ≡ false → (e : Entry) → test e ≡ true → (e ≡ x) ⊎ Mem e xs → Mem e xs
  tail x xs f e t (inl p) = absurd (not-both (test e) t (ap test p ∙ f))
  tail x xs f e t (inr m) = m

  head-place : (so : Maybe ℕ) (x : Entry) (xs : List Entry) (hi : ℕ) → Rising (suc x.at) hi xs → StandsAt (x ∷ xs) test so → Reaches so x.at → so ≡ Some x.at
  head-place None x xs hi rises stands r = absurd r
  head-place (Some so) x xs hi rises stands r = met x xs hi so rises r stands.0 stands.1 stands.3

  stands-tail : (so : Maybe ℕ) (x : Entry) (xs : List Entry) → test x ≡ false → StandsAt (x ∷ xs) test so → StandsAt xs test so
  stands-tail None x xs f stands = tt
  stands-tail (Some so) x xs f stands = (stands.0, tail x xs f stands.0 stands.2 stands.1, stands.2, stands.3)

  stands-none : (so : Maybe ℕ) → StandsAt [] test so → so ≡ None
  stands-none None stands = refl
  stands-none (Some so) stands = absurd stands.1

  pub first-least : (so : Maybe ℕ) (lo hi : ℕ) (es : List Entry) → Rising lo hi es → StandsAt es test so → ((e : Entry) → Mem e es → test e ≡ true → Reaches so e.at) → so ≡ place_of (first (filter test es))
  first-least so lo hi [] rises stands reaches = stands-none so stands
  first-least so lo hi (x ∷ xs) rises stands reaches = go (test x) refl (first-least so (suc x.at) hi xs rises.1)
    where
      go : (b : Bool) → test x ≡ b → (StandsAt xs test so → ((e : Entry) → Mem e xs → test e ≡ true → Reaches so e.at) → so ≡ place_of (first (filter test xs)))
          → so ≡ place_of (first (pick b (x ∷ filter test xs) (filter test xs)))
      go true q rest = head-place so x xs hi rises.1 stands (reaches x (inl refl) q)
      go false q rest = rest (stands-tail so x xs q stands) (λ e m. reaches e (inr m))
